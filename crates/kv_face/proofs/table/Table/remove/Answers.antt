use Rattle.std.proofs.Common.{None}
use Rattle.kv_face.proofs.Held.{updated}
use Rattle.kv_face.proofs.table.Table.remove.Goals as goal

pub returns-clause-held : goal.returns-clause-held
returns-clause-held c = updated c.args.self.now.map c.swap_remove.new.self c.args.key.now None c.swap_remove.ensures.updates
