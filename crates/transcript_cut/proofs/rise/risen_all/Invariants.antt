use Rattle.std.proofs.Common.{drop}
use Rattle.transcript_cut.proofs.Rising.{IsUpTo}
use Rattle.transcript_cut.proofs.rise.risen_all.Given as goal

abbrev pub invariant-loop-number : goal.invariant-loop-number
invariant-loop-number l = IsUpTo l.fn.last l.numbers l.latest (drop l.number-index l.numbers)
