use Rattle.std.proofs.Common.{ap, ◌∙◌}
use Rattle.kv_face.specs.Store.{are_together}
use Rattle.kv_face.specs.Memory.{MemoryStore, prefixes_of}
use Rattle.kv_face.proofs.Changes.{together_of_flag}
use Rattle.kv_face.proofs.memory.MemoryKvKvStore.together.Goals as goal

pub returns-else-changes-le1 : goal.returns-else-changes-le1
returns-else-changes-le1 c =
    together_of_flag c.self.inside.atomic c.args.changes.now c.args._from c.if-changes-le1.false
    ∙ ap (λ (s : MemoryStore). are_together (prefixes_of s) c.args.changes.now c.args._from) c.self.view_is
