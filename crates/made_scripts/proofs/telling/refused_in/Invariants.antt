use Rattle.std.proofs.Common.{◌≡◌, take}
use Rattle.std.specs.Prelude.{not}
use Rattle.std.specs.List.{count_by}
use Rattle.answer_text.specs.Status.{is_ok_answer}
use Rattle.made_scripts.proofs.telling.refused_in.Given as goal

abbrev pub invariant-loop-answer : goal.invariant-loop-answer
invariant-loop-answer l = l.count ≡ count_by (λ answer. not (is_ok_answer answer)) (take l.answer-index l.log)
