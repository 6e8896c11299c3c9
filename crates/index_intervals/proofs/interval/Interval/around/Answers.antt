use Rattle.std.proofs.Common.{ap, subst, sym, arith}
use Rattle.std.proofs.lemmas.Int.{ints, clamps}
use Rattle.index_intervals.specs.Bounds.{Bounds, AreBounds}
use Rattle.index_intervals.proofs.MemberLemmas.{same_bounds}
use Rattle.index_intervals.proofs.AroundLemmas.{AreBounds-around}
use Rattle.index_intervals.proofs.interval.Interval.around.Goals as goal

pub returns : goal.returns
returns c =
    let self_lo = ap (λ (v : Bounds). v.lo) c.self.view_is in
    let self_hi = ap (λ (v : Bounds). v.hi) c.self.view_is in
    let other_lo = ap (λ (v : Bounds). v.lo) c.other.view_is in
    let other_hi = ap (λ (v : Bounds). v.hi) c.other.view_is in
    same_bounds _ _ _ _ _ _ _ _
    (omega (arith, ints, clamps))
    (omega (arith, ints, clamps))
    c.is_lo_implicit_around.ensures c.is_hi_implicit_around.ensures

pub invariant_of-result : goal.invariant_of-result
invariant_of-result c = subst AreBounds (sym (returns c)) (AreBounds-around c.args.self.now c.args.other.now (subst AreBounds c.self.view_is c.self.invariant) (subst AreBounds c.other.view_is c.other.invariant))
