use Rattle.std.proofs.Common.{Some, string_bytes}
use Rattle.kv_face.proofs.Held.{updated}
use Rattle.kv_face.proofs.table.Table.put.Goals as goal

pub returns-clause-held : goal.returns-clause-held
returns-clause-held c = updated c.args.self.now.map c.insert.new.self (string_bytes c.args.key) (Some c.args.bytes) c.in-Ok.ensures.updates
