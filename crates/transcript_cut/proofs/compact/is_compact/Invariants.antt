use Rattle.std.proofs.Common.{◌≡◌, drop}
use Rattle.transcript_laws.specs.AnswerLines.{outside, is_compact}
use Rattle.transcript_cut.specs.Readings.{reading_of}
use Rattle.transcript_cut.proofs.compact.is_compact.Given as goal

abbrev pub invariant-loop-byte : goal.invariant-loop-byte
invariant-loop-byte l = is_compact (reading_of l.reading) (drop l.byte-index l.bytes) ≡ is_compact outside l.bytes
