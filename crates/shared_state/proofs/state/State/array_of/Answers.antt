use Rattle.std.proofs.Common.{sym, ap, subst, ◌∙◌}
use Rattle.std.specs.Prelude.{IfSome}
use Rattle.state_laws.specs.Places.{IsTable}
use Rattle.state_laws.proofs.Laws.{some_inj}
use Rattle.state_laws.specs.Keyed.{IsKeyIn, local_at}
use Rattle.state_laws.specs.Log.{StateOf}
use Rattle.state_laws.proofs.Laws.{local_some, local_none}
use Rattle.shared_state.proofs.state.State.array_of.Goals as goal

pub returns-in-Some-clause-some : goal.returns-in-Some-clause-some
returns-in-Some-clause-some g c =
    let h = c.args.self.now.log.events in
    let same = ap (λ (st : StateOf g.row.K.Denot). st.log.events) c.self.view_is in
    let table = subst (λ es. IsTable es c.self.inside.places) same c.self.invariant in
    subst (λ o. IfSome o (IsKeyIn h c.args.key.now)) (sym (c.local_at.ensures ∙ ap (λ es. local_at es c.in-Some.event) (c.events.ensures ∙ same)))
    (local_some h c.self.inside.places table c.requires.agrees.1.outline c.in-Some.event c.args.key.now c.in-Some.ensures.some.1)

pub returns-in-Some-clause-none : goal.returns-in-Some-clause-none
returns-in-Some-clause-none g c = λ none.
    let h = c.args.self.now.log.events in
    let same = ap (λ (st : StateOf g.row.K.Denot). st.log.events) c.self.view_is in
    let table = subst (λ es. IsTable es c.self.inside.places) same c.self.invariant in
    local_none h c.self.inside.places table c.requires.agrees.1.outline c.in-Some.event c.args.key.now c.in-Some.ensures.some.1
    (λ m small is. some_inj m c.in-Some.event (sym (c.local_number.ensures.each m small is) ∙ c.in-Some.is)) c.requires.few
    (sym (c.local_at.ensures ∙ ap (λ es. local_at es c.in-Some.event) (c.events.ensures ∙ same)) ∙ none)
