use Rattle.std.proofs.Common.{◌≡◌, take}
use Rattle.answer_text.specs.Text.{text_of_log}
use Rattle.script_streams.proofs.rendering.render_log.Given as goal

abbrev pub invariant-loop-answer : goal.invariant-loop-answer
invariant-loop-answer l = l.text.items ≡ text_of_log (take l.answer-index l.log)
