use Rattle.std.proofs.Common.{◌≡◌, length, Some, None, Ok, refl, sym, ap, subst, ◌∙◌}
use Rattle.std.specs.Prelude.{IsSome}
use Rattle.state_laws.specs.Opening.{leaf_at}
use Rattle.state_laws.specs.Arrays.{Known, ref_of}
use Rattle.state_laws.specs.Leaves.{nothing}
use Rattle.state_laws.specs.Outcomes.{outcome_at}
use Rattle.state_laws.specs.Places.{IsTable, IsFree, array_at, taken}
use Rattle.state_laws.proofs.Laws.{some_inj, taken_by_table, not_taken_by_table}
use Rattle.stack_driver.specs.References.{IsReference}
use Rattle.state_laws.specs.declared.place.Place.{Place}
use Rattle.state_laws.specs.Log.{StateOf}
use Rattle.state_laws.proofs.Laws.{there_of, free_of}
use Rattle.shared_state.proofs.Beside.{never_there}
use Rattle.shared_state.proofs.Answered.{known_answer, taken_answer, never_failed}
use Rattle.shared_state.proofs.state.State.open_at.Goals as goal

pub opened_there-requires-clause-known : goal.opened_there-requires-clause-known
opened_there-requires-clause-known g c =
    let h = c.args.self.now.log.events in
    let same = ap (λ (st : StateOf g.row.K.Denot). st.log.events) c.self.view_is in
    let table = subst (λ es. IsTable es c.self.inside.places) same c.self.invariant in
    let found = c.find.ensures.there c.in-Ok-There.number (c.in-Ok-There.is ∙ ap Ok c.in-Ok-There.field-0-is) in
    let there = there_of h c.self.inside.places table c.items.result.now c.requires.agrees.1.outline c.in-Ok-There.number found.0 in
    subst IsSome (sym there.known) refl

pub opened_there-requires-clause-reference : goal.opened_there-requires-clause-reference
opened_there-requires-clause-reference g c = λ k known.
    let h = c.args.self.now.log.events in
    let same = ap (λ (st : StateOf g.row.K.Denot). st.log.events) c.self.view_is in
    let table = subst (λ es. IsTable es c.self.inside.places) same c.self.invariant in
    let found = c.find.ensures.there c.in-Ok-There.number (c.in-Ok-There.is ∙ ap Ok c.in-Ok-There.field-0-is) in
    let there = there_of h c.self.inside.places table c.items.result.now c.requires.agrees.1.outline c.in-Ok-There.number found.0 in
    subst (λ (l : Known). IsReference (ref_of l)) (some_inj there.array k (sym there.known ∙ known)) there.reference

pub open_free-requires-clause-free : goal.open_free-requires-clause-free
open_free-requires-clause-free g c =
    let h = c.args.self.now.log.events in
    let same = ap (λ (st : StateOf g.row.K.Denot). st.log.events) c.self.view_is in
    let table = subst (λ es. IsTable es c.self.inside.places) same c.self.invariant in
    let found = c.find.ensures.free (c.in-Ok-Free.is ∙ ap Ok c.in-Ok-Free.field-0-is) in
    subst (IsFree h) c.items.ensures (free_of h c.self.inside.places table c.items.result.now c.requires.agrees.1.outline found.0 found.1)

pub returns-in-Ok-Taken-clause-answer : goal.returns-in-Ok-Taken-clause-answer
returns-in-Ok-Taken-clause-answer g c = λ opening agrees.
    let h = c.args.self.now.log.events in
    let place = c.args.place.now in
    let leaf = leaf_at place.names.mount place.names.path c.args.want.now c.args.may_open c.args.may_create in
    let same = ap (λ (st : StateOf g.row.K.Denot). st.log.events) c.self.view_is in
    let table = subst (λ es. IsTable es c.self.inside.places) same c.self.invariant in
    let found = c.find.ensures.taken c.in-Ok-Taken.other (c.in-Ok-Taken.is ∙ ap Ok c.in-Ok-Taken.field-0-is) in
    let here = c.items.ensures ∙ ap (λ (p : Place). p.location) c.requires.place in
    let is_taken = subst (λ l. taken h l ≡ Some c.in-Ok-Taken.other) here (taken_by_table h c.self.inside.places table c.items.result.now c.in-Ok-Taken.other found) in
    taken_answer h leaf c.in-Ok-Taken.other (length c.events.result.now) is_taken (ap length c.events.ensures)

pub returns-in-Ok-There-clause-answer : goal.returns-in-Ok-There-clause-answer
returns-in-Ok-There-clause-answer g c = λ opening agrees.
    let h = c.args.self.now.log.events in
    let place = c.args.place.now in
    let leaf = leaf_at place.names.mount place.names.path c.args.want.now c.args.may_open c.args.may_create in
    let same = ap (λ (st : StateOf g.row.K.Denot). st.log.events) c.self.view_is in
    let table = subst (λ es. IsTable es c.self.inside.places) same c.self.invariant in
    let found = c.find.ensures.there c.in-Ok-There.number (c.in-Ok-There.is ∙ ap Ok c.in-Ok-There.field-0-is) in
    let there = there_of h c.self.inside.places table c.items.result.now c.requires.agrees.1.outline c.in-Ok-There.number found.0 in
    let here = c.items.ensures ∙ ap (λ (p : Place). p.location) c.requires.place in
    let at = subst (λ l. array_at h l ≡ Some there.array) here there.at in
    let clear = subst (λ l. taken h l ≡ None) here (not_taken_by_table h c.self.inside.places table c.items.result.now found.1) in
    known_answer opening.store.contents h c.args.owner leaf there.array at clear c.opened_there.result (c.opened_there.ensures there.array leaf nothing there.known refl refl)

pub returns-in-Ok-There-clause-failed : goal.returns-in-Ok-There-clause-failed
returns-in-Ok-There-clause-failed g c = λ event e.
    let h = c.args.self.now.log.events in
    let place = c.args.place.now in
    let leaf = leaf_at place.names.mount place.names.path c.args.want.now c.args.may_open c.args.may_create in
    let same = ap (λ (st : StateOf g.row.K.Denot). st.log.events) c.self.view_is in
    let table = subst (λ es. IsTable es c.self.inside.places) same c.self.invariant in
    let found = c.find.ensures.there c.in-Ok-There.number (c.in-Ok-There.is ∙ ap Ok c.in-Ok-There.field-0-is) in
    let there = there_of h c.self.inside.places table c.items.result.now c.requires.agrees.1.outline c.in-Ok-There.number found.0 in
    absurd (never_failed there.array (length h) c.opened_there.result event (outcome_at leaf nothing (Some there.array)) (c.opened_there.ensures there.array leaf nothing there.known refl refl) e)

pub returns-in-Ok-Free-clause-there : goal.returns-in-Ok-Free-clause-there
returns-in-Ok-Free-clause-there g c = never_there _ c.open_free.result c.open_free.ensures.new
