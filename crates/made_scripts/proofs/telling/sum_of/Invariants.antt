use Rattle.std.proofs.Common.{◌≡◌, pos, take}
use Rattle.made_scripts.specs.Summary.{added, numbers_read}
use Rattle.made_scripts.proofs.telling.sum_of.Given as goal

abbrev pub invariant-loop-answer : goal.invariant-loop-answer
invariant-loop-answer l = l.sum ≡ added (pos 0) (numbers_read (take l.answer-index l.log))
