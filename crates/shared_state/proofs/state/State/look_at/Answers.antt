use Rattle.std.proofs.Common.{◌≡◌, None, Some, Ok, false, sym, ap, subst, ◌∙◌}
use Rattle.std.specs.Prelude.{OnOk}
use Rattle.chunk_cache.specs.Cache.{kept}
use Rattle.state_laws.specs.Arrays.{Known, known_after, is_local}
use Rattle.state_laws.specs.Chunks.{Chunk}
use Rattle.state_laws.specs.Agreement.{IsState}
use Rattle.state_laws.specs.Log.{StateOf}
use Rattle.state_laws.specs.Looks.{HasBounds, LeavesRead}
use Rattle.state_laws.specs.Fetches.{IsNamed}
use Rattle.shared_state.proofs.Looked.{unkept_by}
use Rattle.shared_state.proofs.state.State.look_at.Goals as goal

pub stored_look-requires-clause-agrees : goal.stored_look-requires-clause-agrees
stored_look-requires-clause-agrees g c =
    let seen = g.K.KvStore.seen in
    let same = c.kept_at.ensures.missed (c.in-Ok-None.is ∙ ap Ok c.in-Ok-None.field-0-is) in
    subst (λ (st : StateOf g.row.K.Denot). IsState (seen st.store) st.log) (sym same) c.requires.agrees

pub stored_look-requires-clause-named : goal.stored_look-requires-clause-named
stored_look-requires-clause-named g c =
    let chunk : Chunk = record { array = c.args.array; index = c.args.chunk.now } in
    let same = c.kept_at.ensures.missed (c.in-Ok-None.is ∙ ap Ok c.in-Ok-None.field-0-is) in
    subst (λ (st : StateOf g.row.K.Denot). IsNamed st.log.events chunk c.args.key.now) (sym same) c.requires.named

pub stored_look-requires-clause-unkept : goal.stored_look-requires-clause-unkept
stored_look-requires-clause-unkept g c =
    let named = c.requires.named in
    let log = c.args.self.now.log in
    let same = c.kept_at.ensures.missed (c.in-Ok-None.is ∙ ap Ok c.in-Ok-None.field-0-is) in
    subst (λ (st : StateOf g.row.K.Denot). (k : Known) → known_after st.log.events c.args.array ≡ Some k → (is_local k.info.home ≡ false) × (kept c.args.key.now st.log.cache.entries ≡ None)) (sym same)
    (λ k known. unkept_by _ log c.args.array k c.args.key.now c.requires.agrees known (sym c.in-Ok-None.field-0-is ∙ c.in-Ok-None.ensures.value k known))

pub stored_look-requires-clause-bounds : goal.stored_look-requires-clause-bounds
stored_look-requires-clause-bounds g c =
    let same = c.kept_at.ensures.missed (c.in-Ok-None.is ∙ ap Ok c.in-Ok-None.field-0-is) in
    subst (λ (st : StateOf g.row.K.Denot). HasBounds st.log c.args.array c.in_ok-bounds.bounds) (sym same) c.in_ok-bounds.ensures

pub returns-in-Ok-None-clause-there : goal.returns-in-Ok-None-clause-there
returns-in-Ok-None-clause-there g c = λ snapshot bounds k e known. absurd (c.stored_look.ensures.bytes snapshot bounds e)

pub returns-in-Ok-None-clause-still : goal.returns-in-Ok-None-clause-still
returns-in-Ok-None-clause-still g c = λ generation form bytes bounds e.
    let same = c.kept_at.ensures.missed (c.in-Ok-None.is ∙ ap Ok c.in-Ok-None.field-0-is) in
    let still : c.stored_look.new.self.log ≡ c.kept_at.new.self.log = subst (λ r. OnOk r (c.stored_look.new.self.log ≡ c.kept_at.new.self.log)) e c.stored_look.ensures.ok in
    still ∙ ap (λ (st : StateOf g.row.K.Denot). st.log) same

pub returns-in-Ok-None-clause-left : goal.returns-in-Ok-None-clause-left
returns-in-Ok-None-clause-left g c =
    let seen = g.K.KvStore.seen in
    let chunk : Chunk = record { array = c.args.array; index = c.args.chunk.now } in
    let same = c.kept_at.ensures.missed (c.in-Ok-None.is ∙ ap Ok c.in-Ok-None.field-0-is) in
    subst (λ (st : StateOf g.row.K.Denot). LeavesRead c.args.owner chunk (seen st.store) (seen c.stored_look.new.self.store) st.log c.stored_look.new.self.log c.stored_look.result) same c.stored_look.ensures.left
