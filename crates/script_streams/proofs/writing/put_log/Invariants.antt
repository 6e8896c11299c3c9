use Rattle.std.proofs.Common.{◌≤◌, ◌++◌, take}
use Rattle.answer_text.specs.Text.{text_of_log}
use Rattle.kv_face.specs.Streams.{WhereTold}
use Rattle.script_streams.specs.Writing.{IsUnderWay}
use Rattle.script_streams.specs.Putting.{IsGoing}
use Rattle.script_streams.proofs.writing.put_log.Given as goal

abbrev pub invariant-loop-answer : goal.invariant-loop-answer
invariant-loop-answer g l = record {
  under : WhereTold (g.O.Writer.content l.fn.sink) (λ before. IsUnderWay (g.O.Writer.content l.sink) before (l.fn.waiting.items ++ text_of_log (take l.answer-index l.log)) l.waiting.items);
  later : g.O.Writer.faults l.fn.sink ≤ g.O.Writer.faults l.sink;
  going : IsGoing g.O.Writer.takes l.fn.sink (l.fn.waiting.items ++ text_of_log (take l.answer-index l.log)) l.waiting.items l.sink;
}
