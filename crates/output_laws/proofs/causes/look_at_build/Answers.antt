use Rattle.std.proofs.Common.{sym, subst, refl}
use Rattle.std.specs.Prelude.{codes}
use Rattle.std.specs.List.{AllByRecursion}
use Rattle.transcript_laws.specs.Causes.{build_members}
use Rattle.output_laws.specs.Plain.{IsPlainMember}
use Rattle.output_laws.proofs.Plain.{cause_plain}
use Rattle.output_laws.proofs.causes.look_at_build.Goals as goal

pub returns-in-Transform : goal.returns-in-Transform
returns-in-Transform c = subst (λ x. AllByRecursion IsPlainMember (build_members x)) (sym c.in-Transform.is) c.look_at_compose.ensures

pub returns-in-Layers : goal.returns-in-Layers
returns-in-Layers c = subst (λ x. AllByRecursion IsPlainMember (build_members x)) (sym c.in-Layers.is) (cause_plain (codes "layers") refl, tt)
