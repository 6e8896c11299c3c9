use Rattle.std.proofs.Common.{◌≡◌, length, Some, Ok, sym, ap, subst, ◌∙◌}
use Rattle.std.specs.FinMap as finmap
use Rattle.std.proofs.lemmas.Result.{on_ok_weaker, on_err_weaker}
use Rattle.kv_face.specs.Store.{Contents}
use Rattle.state_laws.specs.Opening.{leaf_at, Tells}
use Rattle.state_laws.specs.Places.{IsFree}
use Rattle.state_laws.specs.declared.place.Place.{Place}
use Rattle.state_laws.specs.Log.{Log, StateOf}
use Rattle.state_laws.specs.Openings.{IsOutcomeOf, IsRefusalOf}
use Rattle.state_laws.specs.History.{History}
use Rattle.state_laws.specs.declared.OpeningRefusal.TheVariants as refusal
use Rattle.state_laws.proofs.Laws.{outcome_of}
use Rattle.shared_state.proofs.Beside.{beside_found, beside_made, has_event}
use Rattle.shared_state.proofs.Answered.{found_answer, made_answer, refused_answer, err_inj}
use Rattle.shared_state.proofs.state.State.open_stored.Goals as goal

pub returns-in-Ok-Found-clause-answer : goal.returns-in-Ok-Found-clause-answer
returns-in-Ok-Found-clause-answer g c = λ opening agrees.
    let log = c.args.self.now.log in
    let seen = g.K.KvStore.seen in
    let store = seen c.args.self.now.store in
    let place = c.args.place.now in
    let leaf = leaf_at place.names.mount place.names.path c.args.want.now c.args.may_open c.args.may_create in
    let bytes = c.args.bytes in
    let free = subst (IsFree log.events) (ap (λ (p : Place). p.location) c.requires.place) c.requires.free in
    let held = subst (λ key. (m : Contents) → store.contents ≡ Some m → bytes ≡ finmap.get m key) (ap (λ (p : Place). p.key) c.requires.place) c.requires.bytes in
    let is = c.in-Ok-Found.is ∙ ap Ok c.in-Ok-Found.field-0-is in
    let told = c.decided.ensures.outcome place.names.mount place.names.path (λ e. let clash = sym is ∙ e in cc) in
    let tells = subst (λ r. Tells leaf.want bytes r told.0) is told.2 in
    let outcome = subst (IsOutcomeOf opening.store.contents log.events leaf) tells (outcome_of opening store log leaf bytes told.0 agrees free c.requires.mount held told.1) in
    found_answer opening.store.contents log.events c.enter_found.new.self.log.events c.args.owner leaf c.in-Ok-Found.form c.enter_found.result outcome c.enter_found.ensures.entered
    (on_ok_weaker c.enter_found.result (ap (λ (l : Log). l.events)) c.enter_found.ensures.after)
    (on_err_weaker c.enter_found.result (λ failed. (failed.0, ap (λ (l : Log). l.events) failed.1)) c.enter_found.ensures.err)

pub returns-in-Ok-Made-clause-answer : goal.returns-in-Ok-Made-clause-answer
returns-in-Ok-Made-clause-answer g c = λ opening agrees.
    let log = c.args.self.now.log in
    let seen = g.K.KvStore.seen in
    let store = seen c.args.self.now.store in
    let place = c.args.place.now in
    let leaf = leaf_at place.names.mount place.names.path c.args.want.now c.args.may_open c.args.may_create in
    let bytes = c.args.bytes in
    let free = subst (IsFree log.events) (ap (λ (p : Place). p.location) c.requires.place) c.requires.free in
    let held = subst (λ key. (m : Contents) → store.contents ≡ Some m → bytes ≡ finmap.get m key) (ap (λ (p : Place). p.key) c.requires.place) c.requires.bytes in
    let is = c.in-Ok-Made.is ∙ ap Ok c.in-Ok-Made.field-0-is in
    let told = c.decided.ensures.outcome place.names.mount place.names.path (λ e. let clash = sym is ∙ e in cc) in
    let tells = subst (λ r. Tells leaf.want bytes r told.0) is told.2 in
    let outcome = subst (IsOutcomeOf opening.store.contents log.events leaf) tells (outcome_of opening store log leaf bytes told.0 agrees free c.requires.mount held told.1) in
    made_answer opening.store.contents store (seen c.make.new.self.store) log c.make.new.self.log c.args.owner leaf c.in-Ok-Made.form c.make.result free outcome c.make.ensures.entered
    (on_ok_weaker c.make.result (ap (λ (l : Log). l.events)) c.make.ensures.after) c.make.ensures.failed c.make.ensures.memory c.make.ensures.errors

pub returns-in-Err-clause-answer : goal.returns-in-Err-clause-answer
returns-in-Err-clause-answer g c = λ opening agrees.
    let log = c.args.self.now.log in
    let seen = g.K.KvStore.seen in
    let store = seen c.args.self.now.store in
    let place = c.args.place.now in
    let leaf = leaf_at place.names.mount place.names.path c.args.want.now c.args.may_open c.args.may_create in
    let bytes = c.args.bytes in
    let free = subst (IsFree log.events) (ap (λ (p : Place). p.location) c.requires.place) c.requires.free in
    let held = subst (λ key. (m : Contents) → store.contents ≡ Some m → bytes ≡ finmap.get m key) (ap (λ (p : Place). p.key) c.requires.place) c.requires.bytes in
    let key = c.items.ensures ∙ ap (λ (p : Place). p.key) c.requires.place in
    let same = ap (λ (st : StateOf g.row.K.Denot). st.log.events) c.self.view_is in
    refused_answer opening.store.contents log.events c.args.owner leaf bytes c.items.result.now c.in-Err.refusal c.refused.result key
    (λ other.
    let told = c.decided.ensures.outcome place.names.mount place.names.path (λ e. other (err_inj c.decided.result c.in-Err.refusal refusal.Memory c.in-Err.is e)) in
    (told.0, outcome_of opening store log leaf bytes told.0 agrees free c.requires.mount held told.1, subst (λ r. Tells leaf.want bytes r told.0) c.in-Err.is told.2))
    (subst (λ (es : History). IsRefusalOf c.items.result.now (length es) c.in-Err.refusal c.refused.result) c.events.ensures c.refused.ensures)

pub returns-in-Ok-Found-clause-new : goal.returns-in-Ok-Found-clause-new
returns-in-Ok-Found-clause-new g c = has_event c.enter_found.result _ _ c.enter_found.ensures.entered

pub returns-in-Ok-Found-clause-beside : goal.returns-in-Ok-Found-clause-beside
returns-in-Ok-Found-clause-beside g c = beside_found c.enter_found.result c.args.self.now.log c.enter_found.new.self.log c.args.owner _ c.enter_found.ensures.after c.enter_found.ensures.err

pub returns-in-Ok-Made-clause-new : goal.returns-in-Ok-Made-clause-new
returns-in-Ok-Made-clause-new g c = has_event c.make.result _ _ c.make.ensures.entered

pub returns-in-Ok-Made-clause-beside : goal.returns-in-Ok-Made-clause-beside
returns-in-Ok-Made-clause-beside g c = beside_made c.make.result _ _ c.args.self.now.log c.make.new.self.log c.args.owner _ _ c.make.ensures.after c.make.ensures.failed c.make.ensures.memory c.make.ensures.errors
