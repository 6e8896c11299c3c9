use Rattle.std.proofs.Common.{sym, ◌∙◌}
use Rattle.kv_mounts.proofs.Begins.{cut, behind-drop}
use Rattle.kv_mounts.proofs.shorter.behind.Goals as goal

pub range_from-requires : goal.range_from-requires
range_from-requires c = λ _. cut c.args.name.now c.args.key.now c.utf8.key c.requires.below

pub returns : goal.returns
returns c = c.range_from.ensures.value ∙ sym (behind-drop c.args.name.now c.args.key.now)
