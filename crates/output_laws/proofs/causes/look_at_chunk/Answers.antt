use Rattle.std.proofs.Common.{sym, subst, refl, arith}
use Rattle.std.specs.Prelude.{codes}
use Rattle.std.specs.List.{AllByRecursion}
use Rattle.transcript_laws.specs.Causes.{chunk_members}
use Rattle.output_laws.specs.Plain.{IsPlainMember}
use Rattle.output_laws.proofs.Plain.{inner, natural_plain, closed_plain}
use Rattle.output_laws.proofs.causes.look_at_chunk.Goals as goal

pub returns-in-Length : goal.returns-in-Length
returns-in-Length c = subst (λ x. AllByRecursion IsPlainMember (chunk_members x)) (sym c.in-Length.is) (inner 0 refl (omega arith) (natural_plain 0 _ c.look_at_number.ensures), (inner 0 refl (omega arith) (natural_plain 0 _ c.look_at_number-in-Length.ensures), (inner 0 refl (omega arith) (closed_plain 0 (codes "length") refl), tt)))

pub returns-in-Mode : goal.returns-in-Mode
returns-in-Mode c = subst (λ x. AllByRecursion IsPlainMember (chunk_members x)) (sym c.in-Mode.is) (inner 0 refl (omega arith) (natural_plain 0 _ c.look_at_u16.ensures), (inner 0 refl (omega arith) (closed_plain 0 (codes "mode") refl), tt))

pub returns-in-Rank : goal.returns-in-Rank
returns-in-Rank c = subst (λ x. AllByRecursion IsPlainMember (chunk_members x)) (sym c.in-Rank.is) (inner 0 refl (omega arith) (natural_plain 0 _ c.look_at_u16-in-Rank.ensures), (inner 0 refl (omega arith) (closed_plain 0 (codes "rank") refl), tt))

pub returns-in-Size : goal.returns-in-Size
returns-in-Size c = subst (λ x. AllByRecursion IsPlainMember (chunk_members x)) (sym c.in-Size.is) (inner 0 refl (omega arith) (natural_plain 0 _ c.look_at_u32.ensures), (inner 0 refl (omega arith) (natural_plain 0 _ c.look_at_u32-in-Size.ensures), (inner 0 refl (omega arith) (closed_plain 0 (codes "size") refl), tt)))
