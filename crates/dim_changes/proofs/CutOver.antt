-- What composing over emptied dimensions gives.
use Rattle.std.proofs.Common.{◌≡◌, ◌∙◌, ℕ, List, ap, subst, Result, Ok, Err}
use Rattle.transform_composition.specs.Transforms.{DomainAndMaps, IsTransform}
use Rattle.transform_composition.specs.Agreeing.{Agrees}
use Rattle.transform_composition.specs.Composing.{composed}
use Rattle.step_forms.specs.declared.act.Act.{Act}
use Rattle.step_forms.specs.Given.{HasIndicesAt}
use Rattle.dim_changes.specs.declared.cause.Cause.{Cause}
use Rattle.dim_changes.specs.declared.cause.Fault.{Fault}
use Rattle.dim_changes.specs.declared.cause.Fault.TheVariants as fault
use Rattle.dim_changes.specs.Causes.{or_cause, over, Gives, IsFaultOf}
use Rattle.dim_changes.specs.CutViews.{cut_view}
use Rattle.dim_changes.specs.Emptied.{emptied_view, IsComposed}
use Rattle.dim_changes.proofs.CutViews.{IsTightTransform-cut}
use Rattle.dim_changes.proofs.EmptiedLaws.{over-refilled, refilled_answer}
use Rattle.dim_changes.proofs.OverLaws.{gives-over}
use Rattle.dim_changes.proofs.RangeLaws.{AreBounds-each}
use Rattle.dim_changes.proofs.TightAnswers.{tighten_answer-same}

-- the answer is that over the emptied view, which tightening leaves
over-emptied : (a : Act) (u : DomainAndMaps) (selected : List ℕ) (built : DomainAndMaps) (r : Result DomainAndMaps Fault) → IsTransform u → ((spot : ℕ) → HasIndicesAt a spot)
    → built ≡ emptied_view u selected a → Gives u built (or_cause (composed u built)) r → Gives u (emptied_view u selected a) (over u (emptied_view u selected a)) r
over-emptied a u selected built r t i made given =
    let tight = tighten_answer-same (emptied_view u selected a) u.domain (IsTightTransform-cut a u.domain.dims selected (AreBounds-each u.domain.dims t.bounds) i) in
    gives-over u built (emptied_view u selected a) r made tight given

pub composed-emptied : (a : Act) (u : DomainAndMaps) (selected : List ℕ) (built t : DomainAndMaps) → IsTransform u → ((spot : ℕ) → HasIndicesAt a spot)
    → built ≡ emptied_view u selected a → Gives u built (or_cause (composed u built)) (Ok t) → Agrees t u built → IsComposed u selected a t
composed-emptied a u selected built t o i made given agrees =
    let g = over-emptied a u selected built (Ok t) o i made given in
    record { answer = g.0; agrees = subst (λ (b : DomainAndMaps). Agrees t u b) made agrees; inside = (g.1).inside }

same-fault : (a b : Result DomainAndMaps Cause) (f : Fault) → ((c : Cause) → a ≡ Err c → b ≡ Err c) → IsFaultOf a f → IsFaultOf b f
same-fault a b (fault.Refused c) h is = h c is
same-fault a b fault.Memory h is = tt

-- and a refusal stays one
pub fault-refilled : (a : Act) (u : DomainAndMaps) (selected : List ℕ) (built : DomainAndMaps) (e : Fault) → IsTransform u → ((spot : ℕ) → HasIndicesAt a spot)
    → built ≡ emptied_view u selected a → Gives u built (or_cause (composed u built)) (Err e) → IsFaultOf (over u (cut_view u selected a)) e
fault-refilled a u selected built e t i made given =
    same-fault (over u (emptied_view u selected a)) (over u (cut_view u selected a)) e
    (λ c is. over-refilled a u selected t ∙ ap (refilled_answer a u.domain.dims selected) is) (over-emptied a u selected built (Err e) t i made given)
