use Rattle.std.proofs.Common.{ap, subst, sym, refl, ◌↔◌, ◌+ℤ◌, arith, rules}
use Rattle.std.proofs.lemmas.Int.{ints}
use Rattle.index_intervals.specs.Bounds.{Bounds, AreBounds}
use Rattle.index_intervals.specs.Members.{IsMember}
use Rattle.index_intervals.specs.Shift.{CanShift}
use Rattle.index_intervals.proofs.ShiftLemmas.{AreBounds-shifted, IsMember-shifted}
use Rattle.index_intervals.proofs.interval.Interval.shift.Goals as goal

-- `?` gave the second bound's error
pub returns-in_err-moved-2-clause-succeeds : goal.returns-in_err-moved-2-clause-succeeds
returns-in_err-moved-2-clause-succeeds c =
    let lo = ap (λ (v : Bounds). v.lo) c.self.view_is in
    let hi = ap (λ (v : Bounds). v.hi) c.self.view_is in (
      (λ o. absurd (search (rules, c.from_residual-in_err-moved-2.ensures.0, o))),
      (λ s. let e = c.in_err-moved-2.ensures.succeeds.1 (λ i.
          let j = s.hi (record { above = omega (arith, ints, i.above); below = omega (arith, ints, i.below) }) in
          record { above = omega (arith, ints, j.above); below = omega (arith, ints, j.below) }) in cc),
    )

can : (c : goal.In_ok-moved-2) → CanShift c.args.self.now c.args.by
can c =
    let lo = ap (λ (v : Bounds). v.lo) c.self.view_is in
    let hi = ap (λ (v : Bounds). v.hi) c.self.view_is in
    record {
      lo = λ i.
          let j = c.in_ok-moved.ensures.succeeds.0 refl (record { above = omega (arith, ints, i.above); below = omega (arith, ints, i.below) }) in
          record { above = omega (arith, ints, j.above); below = omega (arith, ints, j.below) };
      hi = λ i.
          let j = c.in_ok-moved-2.ensures.succeeds.0 refl (record { above = omega (arith, ints, i.above); below = omega (arith, ints, i.below) }) in
          record { above = omega (arith, ints, j.above); below = omega (arith, ints, j.below) };
    }

pub returns-clause-value : goal.returns-clause-value
returns-clause-value c = search rules

pub invariant_of-result : goal.invariant_of-result
invariant_of-result c = subst AreBounds (sym (returns-clause-value c)) (AreBounds-shifted c.args.self.now c.args.by (subst AreBounds c.self.view_is c.self.invariant) (can c))

pub returns-clause-succeeds : goal.returns-clause-succeeds
returns-clause-succeeds c = ((λ _. can c), (λ _. refl))

pub returns-clause-members : goal.returns-clause-members
returns-clause-members c = λ x i j. subst (λ (v : Bounds). IsMember v (x +ℤ c.args.by) ↔ IsMember c.args.self.now x) (sym (returns-clause-value c)) (IsMember-shifted c.args.self.now c.args.by (subst AreBounds c.self.view_is c.self.invariant) x i j)
