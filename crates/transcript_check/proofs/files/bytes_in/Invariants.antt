use Rattle.std.proofs.Common.{◌≡◌, length, take}
use Rattle.std.specs.Prelude.{sum_by}
use Rattle.script_streams.specs.Reading.{texts_in}
use Rattle.transcript_check.proofs.files.bytes_in.Given as goal

abbrev pub invariant-loop-i : goal.invariant-loop-i
invariant-loop-i l = l.count ≡ sum_by length (texts_in (take l.i l.texts))
