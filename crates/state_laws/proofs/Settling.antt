-- What a look told may be settled in a later turn.
use Rattle.std.proofs.Common.{◌≡◌, ℕ, List, ◌++◌, Bool, true, false, cond, Option, Some, refl, sym, ap, subst, ◌∙◌}
use Rattle.std.specs.FinMap as finmap
use Rattle.std.proofs.lemmas.List.{map-append}
use Rattle.cells.specs.Elements.{word_at}
use Rattle.cells.specs.Places.{IsInside}
use Rattle.chunk_cache.specs.Cache.{after_hit}
use Rattle.chunk_cache.specs.Snapshot.{SnapshotCells}
use Rattle.history.specs.declared.Form.{Form}
use Rattle.history.specs.Metadata.{chunk_shape_of, dtype_of, fill_of}
use Rattle.history.specs.Words.{stored_word}
use Rattle.history.specs.declared.array.ArrayInfo.{ArrayInfo}
use Rattle.history.specs.History.{History}
use Rattle.history.specs.Arrays.{Known, known_after, is_local}
use Rattle.history.specs.Chunks.{Chunk, chunk_key}
use Rattle.history.specs.Legal.{IsLegal}
use Rattle.history.specs.Snapshots.{chunk_box}
use Rattle.history.specs.Touch.{generation_of}
use Rattle.history.proofs.Laws.{opened_itself, as_opened, some_inj, known-longer, snapshot_longer}
use Rattle.state_laws.specs.Seen.{StoreSeen}
use Rattle.state_laws.specs.Log.{Log}
use Rattle.state_laws.specs.Outline.{outline, outlined_event}
use Rattle.state_laws.specs.Kept.{IsCurrent}
use Rattle.state_laws.specs.Agreement.{Opening, Agrees, IsState}
use Rattle.state_laws.specs.Fetches.{IsAnswered, IsNamed, MaySettle, looked_at}
use Rattle.state_laws.specs.Looks.{IsStoredLook}
use Rattle.state_laws.proofs.Outline.{known-outline}
use Rattle.state_laws.proofs.Filled.{decoded_answered}

-- what the bytes of a look decode to are the chunk's cells
pub look_answered : (store : StoreSeen) (log : Log) (c : Chunk) (generation : ℕ) (f : Form) (bytes : Option (List ℕ)) (snapshot : SnapshotCells) → IsState store log → IsStoredLook store log c generation f bytes → snapshot.generation ≡ generation
    → snapshot.cells.dtype ≡ dtype_of f → snapshot.cells.shape ≡ chunk_shape_of f
    → ((index : List ℕ) → IsInside (chunk_shape_of f) index → stored_word f (fill_of f) bytes index ≡ Some (word_at snapshot.cells index)) → IsAnswered store log c snapshot
look_answered store log c generation f bytes snapshot state look same dtype shape words =
    let key = chunk_key look.array c.index in
    let named : IsNamed log.events c key = record { array = look.array; known = look.known; valid = look.valid; named = refl } in
    decoded_answered store log c key f bytes state named look.stored look.form_is look.held snapshot (same ∙ look.generation_is) dtype shape words

-- an array that was there has the same opening later
known_later : (h more : History) (a : ℕ) (k l : Known) → IsLegal finmap.empty (outline (h ++ more)) → known_after h a ≡ Some k → known_after (h ++ more) a ≡ Some l → l.info ≡ k.info
known_later h more a k l legal is later =
    let longer = subst (IsLegal finmap.empty) (map-append outlined_event h more) legal in
    let known : known_after (outline h) a ≡ Some k = known-outline a h ∙ is in
    let there = as_opened k.info k.opened (known_after (outline h ++ outline more) a) (known-longer finmap.empty (outline h) a k.info k.opened (opened_itself (known_after (outline h) a) k known) (outline more) longer) in
    let same : Some l ≡ Some there.0 = sym later ∙ sym (known-outline a (h ++ more)) ∙ ap (λ g. known_after g a) (map-append outlined_event h more) ∙ there.1 in
    ap (λ (m : Known). m.info) (some_inj l there.0 same) ∙ there.2

-- cells that were a chunk's may be settled for as long as a state agrees with the same opening
pub answered_later : (opening : Opening) (store next : StoreSeen) (log later : Log) (more : History) (c : Chunk) (k : Known) (snapshot : SnapshotCells) → later.events ≡ log.events ++ more → Agrees opening store log → Agrees opening next later
    → known_after log.events c.array ≡ Some k → IsAnswered store log c snapshot → MaySettle opening later c snapshot
answered_later opening store next log later more c k snapshot grown early late known is = record {
  cells = λ l there.
      let info = known_later log.events more c.array k l (subst (λ (h : History). IsLegal finmap.empty (outline h)) grown late.outline) known (ap (λ h. known_after h c.array) (sym grown) ∙ there) in
      let was = is.cells k known in
      record { dtype = was.dtype ∙ sym (ap (λ (i : ArrayInfo). i.dtype) info); shape = was.shape ∙ sym (ap chunk_box info) };
  now = λ start l told there same.
      let now = is.now opening start k early told known in
      let legal = subst (IsLegal start) grown (late.holds start told).legal in
      let more_is = snapshot_longer start log.events more k c snapshot.generation (word_at snapshot.cells) legal now (same ∙ ap (λ h. generation_of h c) grown) in
      let one : more_is.0 ≡ l = some_inj more_is.0 l (sym more_is.2.known ∙ ap (λ h. known_after h c.array) (sym grown) ∙ there) in
      subst (λ (h : History). IsCurrent start h l c snapshot) (sym grown) (subst (λ m. IsCurrent start (log.events ++ more) m c snapshot) one more_is.2);
}

-- a look into the cache adds no event
pub looked_events : (log : Log) (k : Known) (key : List ℕ) → (looked_at log k key).events ≡ log.events
looked_events log k key = by (is_local k.info.home)
  where
    by : (b : Bool) → (cond b log (record log { cache = record log.cache { entries = after_hit key log.cache.entries } })).events ≡ log.events
    by true = refl
    by false = refl
