use Rattle.std.proofs.Common.{◌∙◌, sym}
use Rattle.kv_face.proofs.Held.{get-held_by}
use Rattle.kv_face.proofs.table.Table.get.Goals as goal

pub returns : goal.returns
returns c = c.get.ensures.value ∙ sym (get-held_by c.args.self.now.map c.args.key.now)
