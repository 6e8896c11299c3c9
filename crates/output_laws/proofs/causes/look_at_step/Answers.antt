use Rattle.std.proofs.Common.{sym, subst, refl, arith, rules, FitsSigned, w64}
use Rattle.std.specs.Prelude.{codes}
use Rattle.std.specs.List.{AllByRecursion}
use Rattle.transcript_laws.specs.Causes.{step_members}
use Rattle.output_laws.specs.Plain.{IsPlainMember}
use Rattle.output_laws.proofs.Plain.{cause_plain, inner, bound_plain, whole_of}
use Rattle.output_laws.proofs.causes.look_at_step.Goals as goal

pub returns-in-Count : goal.returns-in-Count
returns-in-Count c = subst (λ x. AllByRecursion IsPlainMember (step_members x)) (sym c.in-Count.is) (cause_plain (codes "count") refl, tt)

pub returns-in-Rank : goal.returns-in-Rank
returns-in-Rank c = subst (λ x. AllByRecursion IsPlainMember (step_members x)) (sym c.in-Rank.is) (cause_plain (codes "rank") refl, tt)

pub returns-in-Target : goal.returns-in-Target
returns-in-Target c = subst (λ x. AllByRecursion IsPlainMember (step_members x)) (sym c.in-Target.is) (cause_plain (codes "target") refl, tt)

pub returns-in-Label : goal.returns-in-Label
returns-in-Label c = subst (λ x. AllByRecursion IsPlainMember (step_members x)) (sym c.in-Label.is) (cause_plain (codes "label") refl, tt)

pub returns-in-ZeroStep : goal.returns-in-ZeroStep
returns-in-ZeroStep c = subst (λ x. AllByRecursion IsPlainMember (step_members x)) (sym c.in-ZeroStep.is) (cause_plain (codes "zero_step") refl, tt)

pub returns-in-Unbounded : goal.returns-in-Unbounded
returns-in-Unbounded c = subst (λ x. AllByRecursion IsPlainMember (step_members x)) (sym c.in-Unbounded.is) (cause_plain (codes "unbounded") refl, tt)

pub returns-in-BadOrder : goal.returns-in-BadOrder
returns-in-BadOrder c = subst (λ x. AllByRecursion IsPlainMember (step_members x)) (sym c.in-BadOrder.is) (cause_plain (codes "bad_order") refl, tt)

pub returns-in-OutOfRange : goal.returns-in-OutOfRange
returns-in-OutOfRange c =
    let fits_lo : FitsSigned w64 c.in-OutOfRange.lo = search rules in
    let fits_hi : FitsSigned w64 c.in-OutOfRange.hi = search rules in
    subst (λ x. AllByRecursion IsPlainMember (step_members x)) (sym c.in-OutOfRange.is) (
      cause_plain (codes "out_of_range") refl,
      (
        inner 0 refl (omega arith) (bound_plain 0 c.in-OutOfRange.hi (whole_of c.in-OutOfRange.hi fits_hi)),
        (inner 0 refl (omega arith) (bound_plain 0 c.in-OutOfRange.lo (whole_of c.in-OutOfRange.lo fits_lo)), tt),
      ),
    )

pub returns-in-IndexDim : goal.returns-in-IndexDim
returns-in-IndexDim c = subst (λ x. AllByRecursion IsPlainMember (step_members x)) (sym c.in-IndexDim.is) (cause_plain (codes "index_dim") refl, tt)

pub returns-in-Overflow : goal.returns-in-Overflow
returns-in-Overflow c = subst (λ x. AllByRecursion IsPlainMember (step_members x)) (sym c.in-Overflow.is) (cause_plain (codes "overflow") refl, tt)

pub returns-in-TooLarge : goal.returns-in-TooLarge
returns-in-TooLarge c = subst (λ x. AllByRecursion IsPlainMember (step_members x)) (sym c.in-TooLarge.is) (cause_plain (codes "too_large") refl, tt)
