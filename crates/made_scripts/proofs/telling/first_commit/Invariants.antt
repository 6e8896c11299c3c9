use Rattle.std.proofs.Common.{◌≡◌, [], take}
use Rattle.std.specs.List.{flat_map}
use Rattle.made_scripts.specs.Summary.{commit_of}
use Rattle.made_scripts.proofs.telling.first_commit.Given as goal

abbrev pub invariant-loop-answer : goal.invariant-loop-answer
invariant-loop-answer l = flat_map (λ answer. commit_of answer.body) (take l.answer-index l.log) ≡ []
