use Rattle.std.proofs.Common.{ap, subst, sym, ◌∙◌, ◌↔◌, arith}
use Rattle.std.proofs.lemmas.Int.{ints, clamps}
use Rattle.std.specs.Int.{int_min}
use Rattle.index_intervals.specs.Bounds.{Bounds, AreBounds}
use Rattle.index_intervals.specs.Members.{IsMember}
use Rattle.index_intervals.specs.Meet.{IsTieFlag}
use Rattle.index_intervals.proofs.MemberLemmas.{same_bounds}
use Rattle.index_intervals.proofs.MeetLemmas.{met-plain, AreBounds-met, IsMember-met, IsTieFlag-greater, IsTieFlag-lesser}
use Rattle.index_intervals.proofs.interval.Interval.meet.Goals as goal

pub returns-clause-value : goal.returns-clause-value
returns-clause-value c =
    let self_lo = ap (λ (v : Bounds). v.lo) c.self.view_is in
    let self_hi = ap (λ (v : Bounds). v.hi) c.self.view_is in
    let other_lo = ap (λ (v : Bounds). v.lo) c.other.view_is in
    let other_hi = ap (λ (v : Bounds). v.hi) c.other.view_is in
    same_bounds _ _ _ _ _ _ _ _
    (omega (arith, ints, clamps))
    (omega (arith, ints, clamps))
    c.is_met_lo_implicit.ensures c.is_met_hi_implicit.ensures
    ∙ sym (met-plain c.args.self.now c.args.other.now (subst AreBounds c.self.view_is c.self.invariant) (subst AreBounds c.other.view_is c.other.invariant))

pub invariant_of-result : goal.invariant_of-result
invariant_of-result c = subst AreBounds (sym (returns-clause-value c)) (AreBounds-met c.args.self.now c.args.other.now (subst AreBounds c.self.view_is c.self.invariant) (subst AreBounds c.other.view_is c.other.invariant))

pub returns-clause-members : goal.returns-clause-members
returns-clause-members c = λ x. subst (λ (v : Bounds). IsMember v x ↔ (IsMember c.args.self.now x × IsMember c.args.other.now x)) (sym (returns-clause-value c)) (IsMember-met c.args.self.now c.args.other.now x (subst AreBounds c.self.view_is c.self.invariant) (subst AreBounds c.other.view_is c.other.invariant))

pub returns-clause-lo_flag : goal.returns-clause-lo_flag
returns-clause-lo_flag c =
    let e = returns-clause-value c ∙ met-plain c.args.self.now c.args.other.now (subst AreBounds c.self.view_is c.self.invariant) (subst AreBounds c.other.view_is c.other.invariant) in
    subst (λ (v : Bounds). IsTieFlag c.args.self.now.lo c.args.self.now.lo_implicit c.args.other.now.lo c.args.other.now.lo_implicit v.lo v.lo_implicit) (sym e)
    (IsTieFlag-greater c.args.self.now.lo c.args.other.now.lo c.args.self.now.lo_implicit c.args.other.now.lo_implicit)

pub returns-clause-hi_flag : goal.returns-clause-hi_flag
returns-clause-hi_flag c =
    let e = returns-clause-value c ∙ met-plain c.args.self.now c.args.other.now (subst AreBounds c.self.view_is c.self.invariant) (subst AreBounds c.other.view_is c.other.invariant) in
    subst (λ (v : Bounds). IsTieFlag c.args.self.now.hi c.args.self.now.hi_implicit c.args.other.now.hi c.args.other.now.hi_implicit (int_min c.args.self.now.hi c.args.other.now.hi) v.hi_implicit) (sym e)
    (IsTieFlag-lesser c.args.self.now.hi c.args.other.now.hi c.args.self.now.hi_implicit c.args.other.now.hi_implicit)
