use Rattle.std.proofs.Common.{◌≤◌, ◌-◌, length, take}
use Rattle.kv_face.specs.Streams.{WhereTold}
use Rattle.script_streams.specs.Writing.{IsUnderWay, text_of_logs}
use Rattle.script_streams.specs.Putting.{IsGoing}
use Rattle.script_streams.proofs.writing.write_logs_beside.Given as goal

abbrev pub invariant-loop-from : goal.invariant-loop-from
invariant-loop-from g l = record {
  within : l.from ≤ length l.logs;
  under : WhereTold (g.O.Writer.content l.fn.sink) (λ before. IsUnderWay (g.O.Writer.content l.sink) before (text_of_logs (take l.from l.logs)) l.waiting.items);
  later : g.O.Writer.faults l.fn.sink ≤ g.O.Writer.faults l.sink;
  going : IsGoing g.O.Writer.takes l.fn.sink (text_of_logs (take l.from l.logs)) l.waiting.items l.sink;
}

abbrev pub decreases-loop-from : goal.decreases-loop-from
decreases-loop-from g l = length l.logs - l.from
