use Rattle.std.proofs.Common.{◌≡◌, List, ℕ, Some, Ok, sym, ap, subst, ◌∙◌}
use Rattle.std.specs.FinMap as finmap
use Rattle.std.proofs.lemmas.Result.{IfOk-weaker}
use Rattle.history.specs.Leaves.{nothing, location_of_leaf}
use Rattle.history.specs.Outcomes.{opening_outcome}
use Rattle.locations.specs.Paths.{IsLeastClash, HasNoClash}
use Rattle.stated_arrays.specs.Asked.{leaf_asked}
use Rattle.stated_arrays.specs.Outcomes.{IsToldAs}
use Rattle.stated_arrays.specs.declared.outcomes.LeafOutcome.{LeafOutcome}
use Rattle.stated_arrays.proofs.OutcomeLaws.{outcome_taken, outcome_free, opened_there, may_shape, told_there}
use Rattle.stated_arrays.proofs.outcomes.outcome_after.Goals as goal

pub returns-in-Ok-Taken : goal.returns-in-Ok-Taken
returns-in-Ok-Taken c =
    let other = c.in-Ok-Taken.other in
    outcome_taken c.args.events.now c.args.opened.now c.args.places.now c.requires (leaf_asked c.args.asked.now) other
    (subst (λ t. IsLeastClash c.args.places.now t other) (c.items.ensures ∙ c.in_ok-location.ensures) (c.find.ensures.taken other (c.in-Ok-Taken.is ∙ ap Ok c.in-Ok-Taken.field-0-is)))

pub array_of-requires : goal.array_of-requires
array_of-requires c =
    let number = c.in-Ok-There.number in
    let there = c.find.ensures.there number (c.in-Ok-There.is ∙ ap Ok c.in-Ok-There.field-0-is) in
    opened_there c.args.events.now c.args.opened.now c.args.places.now c.requires _ number there.0

pub checked-requires : goal.checked-requires
checked-requires c =
    let number = c.in-Ok-There.number in
    let there = c.find.ensures.there number (c.in-Ok-There.is ∙ ap Ok c.in-Ok-There.field-0-is) in
    may_shape c.args.events.now c.args.opened.now c.args.places.now c.requires _ number there.0 c.array_of.result.now c.array_of.ensures

pub returns-in-Ok-There : goal.returns-in-Ok-There
returns-in-Ok-There c =
    let here = c.items.ensures ∙ c.in_ok-location.ensures in
    let number = c.in-Ok-There.number in
    let there = c.find.ensures.there number (c.in-Ok-There.is ∙ ap Ok c.in-Ok-There.field-0-is) in
    IfOk-weaker c.checked.result _ (λ (told : LeafOutcome). IsToldAs c.args.events.now told (opening_outcome c.args.events.now (leaf_asked c.args.asked.now) nothing))
    (told_there c.args.events.now c.args.opened.now c.args.places.now c.requires (leaf_asked c.args.asked.now) number (subst (λ (t : List ℕ). finmap.get c.args.places.now t ≡ Some number) here there.0) (subst (HasNoClash c.args.places.now) here there.1)
    c.array_of.result.now c.array_of.ensures) c.checked.ensures

pub returns-in-Ok-Free : goal.returns-in-Ok-Free
returns-in-Ok-Free c =
    let here = c.items.ensures ∙ c.in_ok-location.ensures in
    let free = c.find.ensures.free (c.in-Ok-Free.is ∙ ap Ok c.in-Ok-Free.field-0-is) in
    IfOk-weaker c.made_new.result _ (λ (told : LeafOutcome). IsToldAs c.args.events.now told (opening_outcome c.args.events.now (leaf_asked c.args.asked.now) nothing))
    (λ told each. subst (IsToldAs c.args.events.now told) (sym (outcome_free c.args.events.now c.args.opened.now c.args.places.now c.requires (leaf_asked c.args.asked.now) (ap (finmap.get c.args.places.now) (sym here) ∙ free.0) (subst (HasNoClash c.args.places.now) here free.1))) (each c.args.events.now)) c.made_new.ensures
