use Rattle.std.proofs.Common.{sym, subst, refl, arith}
use Rattle.std.specs.Prelude.{codes}
use Rattle.std.specs.List.{AllByRecursion}
use Rattle.transcript_laws.specs.Causes.{join_members}
use Rattle.output_laws.specs.Plain.{IsPlainMember}
use Rattle.output_laws.proofs.Plain.{cause_plain, inner, natural_plain}
use Rattle.output_laws.proofs.causes.look_at_join.Goals as goal

pub returns-in-Depth : goal.returns-in-Depth
returns-in-Depth c = subst (λ x. AllByRecursion IsPlainMember (join_members x)) (sym c.in-Depth.is) (cause_plain (codes "depth") refl, tt)

pub returns-in-Layers : goal.returns-in-Layers
returns-in-Layers c = subst (λ x. AllByRecursion IsPlainMember (join_members x)) (sym c.in-Layers.is) (cause_plain (codes "layers") refl, (inner 0 refl (omega arith) (natural_plain 0 _ c.look_at_u32.ensures), tt))

pub returns-in-Axis : goal.returns-in-Axis
returns-in-Axis c = subst (λ x. AllByRecursion IsPlainMember (join_members x)) (sym c.in-Axis.is) (cause_plain (codes "axis") refl, tt)

pub returns-in-Rank : goal.returns-in-Rank
returns-in-Rank c = subst (λ x. AllByRecursion IsPlainMember (join_members x)) (sym c.in-Rank.is) (cause_plain (codes "rank") refl, tt)

pub returns-in-Unbounded : goal.returns-in-Unbounded
returns-in-Unbounded c = subst (λ x. AllByRecursion IsPlainMember (join_members x)) (sym c.in-Unbounded.is) (cause_plain (codes "unbounded") refl, (inner 0 refl (omega arith) (natural_plain 0 _ c.look_at_u32-in-Unbounded.ensures), tt))

pub returns-in-Overflow : goal.returns-in-Overflow
returns-in-Overflow c = subst (λ x. AllByRecursion IsPlainMember (join_members x)) (sym c.in-Overflow.is) (cause_plain (codes "overflow") refl, (inner 0 refl (omega arith) (natural_plain 0 _ c.look_at_u32-in-Overflow.ensures), tt))

pub returns-in-Memory : goal.returns-in-Memory
returns-in-Memory c = subst (λ x. AllByRecursion IsPlainMember (join_members x)) (sym c.in-Memory.is) (cause_plain (codes "memory") refl, tt)
