use Rattle.std.proofs.Common.{ap, arith}
use Rattle.std.proofs.lemmas.Int.{ints}
use Rattle.index_intervals.specs.Bounds.{Bounds}
use Rattle.index_intervals.proofs.interval.Interval.size.Goals as goal

pub returns-clause-value : goal.returns-clause-value
returns-clause-value c =
    let lo = ap (λ (v : Bounds). v.lo) c.self.view_is in
    let hi = ap (λ (v : Bounds). v.hi) c.self.view_is in
    omega (arith, ints)
