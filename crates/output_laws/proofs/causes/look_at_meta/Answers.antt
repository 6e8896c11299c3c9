use Rattle.std.proofs.Common.{sym, subst, refl, arith}
use Rattle.std.specs.Prelude.{codes}
use Rattle.std.specs.List.{AllByRecursion}
use Rattle.transcript_laws.specs.Causes.{meta_members}
use Rattle.output_laws.specs.Plain.{IsPlainMember}
use Rattle.output_laws.proofs.Plain.{inner, text_plain, closed_plain}
use Rattle.output_laws.proofs.causes.look_at_meta.Goals as goal

pub returns-in-Json : goal.returns-in-Json
returns-in-Json c = subst (λ x. AllByRecursion IsPlainMember (meta_members x)) (sym c.in-Json.is) (inner 0 refl (omega arith) (closed_plain 0 (codes "json") refl), tt)

pub returns-in-Member : goal.returns-in-Member
returns-in-Member c = subst (λ x. AllByRecursion IsPlainMember (meta_members x)) (sym c.in-Member.is) (inner 0 refl (omega arith) (text_plain 0 _ c.look_at_name.ensures), (inner 0 refl (omega arith) (closed_plain 0 (codes "member") refl), tt))

pub returns-in-Unsupported : goal.returns-in-Unsupported
returns-in-Unsupported c = subst (λ x. AllByRecursion IsPlainMember (meta_members x)) (sym c.in-Unsupported.is) (inner 0 refl (omega arith) (text_plain 0 _ c.look_at_name-in-Unsupported.ensures), (inner 0 refl (omega arith) (closed_plain 0 (codes "unsupported") refl), tt))
