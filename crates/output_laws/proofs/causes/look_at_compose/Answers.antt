use Rattle.std.proofs.Common.{sym, subst, refl, arith}
use Rattle.std.specs.Prelude.{codes}
use Rattle.std.specs.List.{AllByRecursion}
use Rattle.transcript_laws.specs.Causes.{compose_members}
use Rattle.output_laws.specs.Plain.{IsPlainMember}
use Rattle.output_laws.proofs.Plain.{cause_plain, inner, natural_plain}
use Rattle.output_laws.proofs.causes.look_at_compose.Goals as goal

pub returns-in-Rank : goal.returns-in-Rank
returns-in-Rank c = subst (λ x. AllByRecursion IsPlainMember (compose_members x)) (sym c.in-Rank.is) (cause_plain (codes "rank") refl, tt)

pub returns-in-Overflow : goal.returns-in-Overflow
returns-in-Overflow c = subst (λ x. AllByRecursion IsPlainMember (compose_members x)) (sym c.in-Overflow.is) (cause_plain (codes "overflow") refl, (inner 0 refl (omega arith) (natural_plain 0 _ c.look_at_u32.ensures), tt))

pub returns-in-Outside : goal.returns-in-Outside
returns-in-Outside c = subst (λ x. AllByRecursion IsPlainMember (compose_members x)) (sym c.in-Outside.is) (cause_plain (codes "outside") refl, (inner 0 refl (omega arith) (natural_plain 0 _ c.look_at_u32-in-Outside.ensures), tt))

pub returns-in-TooLarge : goal.returns-in-TooLarge
returns-in-TooLarge c = subst (λ x. AllByRecursion IsPlainMember (compose_members x)) (sym c.in-TooLarge.is) (cause_plain (codes "too_large") refl, (inner 0 refl (omega arith) (natural_plain 0 _ c.look_at_u32-in-TooLarge.ensures), tt))

pub returns-in-Memory : goal.returns-in-Memory
returns-in-Memory c = subst (λ x. AllByRecursion IsPlainMember (compose_members x)) (sym c.in-Memory.is) (cause_plain (codes "memory") refl, tt)
