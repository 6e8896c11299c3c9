use Rattle.std.proofs.Common.{◌≡◌, subst, ◌∙◌}
use Rattle.std.specs.Prelude.{option_map}
use Rattle.std.proofs.lemmas.Result.{IfOk-weaker}
use Rattle.history.specs.Arrays.{ref_of}
use Rattle.history.specs.Places.{array_at}
use Rattle.stated_arrays.specs.Outcomes.{IsArrayAt}
use Rattle.stated_acts.proofs.ReferenceLaws.{reference_lying, lying_named, none_lying}
use Rattle.stated_acts.proofs.opened_views.named_there.Goals as goal

pub named-requires : goal.named-requires
named-requires c =
    let h = c.args.events.now in
    reference_lying h c.args.opened.now c.args.places.now c.requires c.args.location.now c.in-Some.info.now
    (subst (λ o. IsArrayAt (array_at h c.args.location.now) (option_map (λ i. i.now) o)) c.in-Some.is c.in_ok-found.ensures)

pub returns-in-Some : goal.returns-in-Some
returns-in-Some c =
    let h = c.args.events.now in
    let lies = subst (λ o. IsArrayAt (array_at h c.args.location.now) (option_map (λ i. i.now) o)) c.in-Some.is c.in_ok-found.ensures in
    IfOk-weaker c.named.result _ (λ array. option_map ref_of (array_at h c.args.location.now) ≡ array)
    (λ array is. lying_named h c.args.opened.now c.args.places.now c.requires c.args.location.now c.in-Some.info.now lies ∙ is) c.named.ensures

pub returns-in-None : goal.returns-in-None
returns-in-None c =
    let h = c.args.events.now in
    none_lying h c.args.opened.now c.args.places.now c.requires c.args.location.now
    (subst (λ o. IsArrayAt (array_at h c.args.location.now) (option_map (λ i. i.now) o)) c.in-None.is c.in_ok-found.ensures)
