use Rattle.std.proofs.Common.{◌≤◌, ◌++◌, take}
use Rattle.kv_face.specs.Streams.{WhereTold}
use Rattle.script_streams.specs.Writing.{IsUnderWay, text_of_logs}
use Rattle.script_streams.specs.Putting.{IsGoing}
use Rattle.script_streams.proofs.writing.put_logs.Given as goal

abbrev pub invariant-loop-place : goal.invariant-loop-place
invariant-loop-place g l = record {
  under : WhereTold (g.O.Writer.content l.fn.sink) (λ before. IsUnderWay (g.O.Writer.content l.sink) before (l.fn.waiting.items ++ text_of_logs (take l.place l.logs)) l.waiting.items);
  later : g.O.Writer.faults l.fn.sink ≤ g.O.Writer.faults l.sink;
  going : IsGoing g.O.Writer.takes l.fn.sink (l.fn.waiting.items ++ text_of_logs (take l.place l.logs)) l.waiting.items l.sink;
}
