use Rattle.std.proofs.Common.{◌≡◌, [], ◌∷◌, ◌++◌, true, Some, None, length, sym, ap, subst, ◌∙◌, arith}
use Rattle.std.specs.Prelude.{count_by}
use Rattle.std.specs.FinMap as finmap
use Rattle.std.proofs.lemmas.List.{append_assoc}
use Rattle.state_laws.specs.Metadata.{metadata_text}
use Rattle.state_laws.specs.Wants.{metadata_name_asked}
use Rattle.kv_face.specs.declared.change.Change.{Change}
use Rattle.kv_face.specs.Store.{Contents, put_bytes, after}
use Rattle.state_laws.specs.Homes.{info_at}
use Rattle.state_laws.specs.Opening.{leaf_at}
use Rattle.state_laws.specs.declared.ArrayInfo.{ArrayInfo}
use Rattle.state_laws.specs.Legal.{is_opening}
use Rattle.state_laws.specs.Places.{IsFree}
use Rattle.state_laws.specs.declared.place.Place.{Place}
use Rattle.state_laws.specs.Agreement.{Agrees}
use Rattle.state_laws.specs.Log.{StateOf}
use Rattle.state_laws.specs.Placed.{entered}
use Rattle.state_laws.proofs.Laws.{agrees_made}
use Rattle.shared_state.proofs.Cases.{either_ok, both_err}
use Rattle.shared_state.proofs.Written.{agrees_stored, one_distinct, one_taken}
use Rattle.shared_state.proofs.state.State.make.Goals as goal

pub write_new-requires-clause-keys : goal.write_new-requires-clause-keys
write_new-requires-clause-keys g c =
    let place = c.args.place.now in
    let mount = place.names.mount in
    let rest = place.names.path ++ 47 ∷ metadata_name_asked c.args.want.now in
    let at = ap (λ (p : Place). p.key) c.requires.place ∙ append_assoc mount (47 ∷ place.names.path) (47 ∷ metadata_name_asked c.args.want.now) in
    let changes = c.deref.ensures.value ∙ c.in_ok-changes.ensures in
    one_taken ((g.K.KvStore.seen c.args.self.now.store).names) c.deref.result.now (record { key = c.items.result.now; bytes = Some (metadata_text c.args.form) }) mount rest changes (c.items.ensures ∙ at) c.requires.taken

pub write_new-requires-clause-distinct : goal.write_new-requires-clause-distinct
write_new-requires-clause-distinct g c = one_distinct c.deref.result.now _ (c.deref.ensures.value ∙ c.in_ok-changes.ensures)

pub returns-clause-kept : goal.returns-clause-kept
returns-clause-kept g c = λ opening agrees.
    let log = c.args.self.now.log in
    let seen = g.K.KvStore.seen in
    let store = seen c.args.self.now.store in
    let next = seen c.write_new.new.self.store in
    let place = c.args.place.now in
    let form = c.args.form in
    let leaf = leaf_at place.names.mount place.names.path c.args.want.now true true in
    let at = ap (λ (p : Place). p.key) c.requires.place in
    let free = subst (IsFree log.events) (ap (λ (p : Place). p.location) c.requires.place) c.requires.free in
    let missing = subst (λ key. (m : Contents) → store.contents ≡ Some m → finmap.get m key ≡ None) at c.requires.missing in
    let number = c.array_count-number.ensures.value ∙ ap (λ (s : StateOf g.row.K.Denot). count_by is_opening s.log.events) c.self.view_is in
    let info : c.in_ok-new.new.info ≡ info_at (count_by is_opening log.events) place.names.mount place.names.path form = c.in_ok-new.ensures.info ∙ (λ i. info_at (number i) (c.items-2.ensures i) (c.items-3.ensures i) form) in
    let one : Change = record { key = place.key; bytes = Some (metadata_text form) } in
    let changes : c.deref.result.now ≡ one ∷ [] = c.deref.ensures.value ∙ c.in_ok-changes.ensures ∙ (λ i. record { key = c.items.ensures i; bytes = Some (metadata_text form) } ∷ []) in
    let count : length c.deref.result.now ≡ 1 = ap length changes in
    let made = agrees_made opening store next log c.args.owner leaf form agrees free c.requires.mount c.requires.valid c.requires.asked c.write_new.ensures.frame c.requires.taken in
    agrees_stored opening store next log c.write_new.new.self.log c.args.owner c.in_ok-mount.mount c.write_new.result
    (either_ok c.write_new.result c.write_new.ensures.after c.write_new.ensures.done c.write_new.ensures.one_more (λ later done more steady.
    subst (Agrees opening next) (sym (later ∙ ap (λ (i : ArrayInfo). entered log c.args.owner i None) info))
    (made steady (λ m told. done m told ∙ ap (λ cs. Some (after m cs)) changes ∙ ap (λ key. Some (put_bytes m key (Some (metadata_text form)))) at) (more (omega (arith, count))) missing)))
    (both_err c.write_new.result c.write_new.ensures.contents c.write_new.ensures.count (λ contents changes. record { frame = c.write_new.ensures.frame; contents = contents; changes = changes }))
    c.write_new.ensures.failed c.write_new.ensures.told c.write_new.ensures.memory c.write_new.ensures.errors agrees

pub returns-clause-quiet : goal.returns-clause-quiet
returns-clause-quiet g c = both_err c.write_new.result c.write_new.ensures.contents c.write_new.ensures.count (λ contents changes. record { frame = c.write_new.ensures.frame; contents = contents; changes = changes })
