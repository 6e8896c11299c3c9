use Rattle.std.proofs.Common.{◌≡◌, length, take}
use Rattle.transcript_cut.specs.Numbered.{said_numbers}
use Rattle.transcript_cut.proofs.spots.count_numbers.Given as goal

abbrev pub invariant-loop-line : goal.invariant-loop-line
invariant-loop-line l = l.count ≡ length (said_numbers (take l.line-index l.said))
