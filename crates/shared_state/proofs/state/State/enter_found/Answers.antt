use Rattle.std.proofs.Common.{◌≡◌, List, ℕ, true, Some, None, refl, sym, ap, subst, ◌∙◌, arith}
use Rattle.std.specs.FinMap as finmap
use Rattle.kv_face.specs.Store.{Contents}
use Rattle.std.specs.Prelude.{count_by}
use Rattle.state_laws.specs.Homes.{info_at}
use Rattle.state_laws.specs.Opening.{leaf_at}
use Rattle.state_laws.specs.Legal.{is_opening}
use Rattle.state_laws.specs.declared.ArrayInfo.{ArrayInfo}
use Rattle.state_laws.specs.Places.{IsFree}
use Rattle.state_laws.specs.declared.place.Place.{Place}
use Rattle.state_laws.specs.Agreement.{Agrees}
use Rattle.state_laws.specs.Log.{StateOf}
use Rattle.state_laws.specs.Placed.{entered}
use Rattle.shared_state.proofs.Cases.{either_way}
use Rattle.state_laws.proofs.Laws.{agrees_found, frame_same}
use Rattle.shared_state.proofs.state.State.enter_found.Goals as goal

pub returns-clause-kept : goal.returns-clause-kept
returns-clause-kept g c = λ opening agrees.
    let log = c.args.self.now.log in
    let seen = g.K.KvStore.seen in
    let store = seen c.args.self.now.store in
    let place = c.args.place.now in
    let leaf = leaf_at place.names.mount place.names.path c.args.want.now true true in
    let free = subst (IsFree log.events) (ap (λ (p : Place). p.location) c.requires.place) c.requires.free in
    let there = subst (λ key. (m : Contents) → store.contents ≡ Some m → (bytes : List ℕ) × (finmap.get m key ≡ Some bytes)) (ap (λ (p : Place). p.key) c.requires.place) c.requires.there in
    let number = c.array_count-number.ensures.value ∙ ap (λ (s : StateOf g.row.K.Denot). count_by is_opening s.log.events) c.self.view_is in
    let found = agrees_found opening store store log c.args.owner leaf c.args.form agrees free c.requires.mount c.requires.valid c.requires.asked (frame_same store) c.requires.taken (omega arith) refl refl there in
    subst (λ s. Agrees opening s c.enter_new.new.self.log) (sym (ap seen c.enter_new.ensures.store))
    (either_way c.enter_new.result c.enter_new.ensures.after c.enter_new.ensures.err
    (λ done. subst (Agrees opening store) (sym (done ∙ ap (λ (i : ArrayInfo). entered log c.args.owner i None) (c.in_ok-new.ensures.info ∙ (λ i. info_at (number i) (c.items.ensures i) (c.items-2.ensures i) c.args.form)))) found)
    (λ failed. subst (Agrees opening store) (sym failed.1) agrees))
