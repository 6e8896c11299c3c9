-- Chunks that were looked at, as cells.
use Rattle.std.proofs.Common.{◌≡◌, ◌≢◌, ◌∙◌, ℕ, List, [], ◌∷◌, ◌++◌, length, arith, Option, Some, Result, Err, refl, sym, ap, subst}
use Rattle.std.specs.FinMap as finmap
use Rattle.cells.specs.Elements.{word_at}
use Rattle.cells.specs.Places.{IsInside}
use Rattle.chunk_cache.specs.Snapshot.{SnapshotCells}
use Rattle.chunk_forms.specs.Metadata.{chunk_shape_of, dtype_of, fill_of}
use Rattle.chunk_forms.specs.Words.{stored_word, stored_fault}
use Rattle.chunk_forms.specs.declared.form.Damage.{Damage}
use Rattle.chunk_forms.specs.declared.form.Form.{Form}
use Rattle.chunk_forms.specs.declared.form.FormError.{FormError}
use Rattle.chunk_forms.specs.declared.form.FormError.TheVariants as form_error
use Rattle.chunk_fetches.specs.declared.error.ReadError.{ReadError}
use Rattle.chunk_fetches.specs.declared.error.ReadError.TheVariants as read
use Rattle.history.specs.Arrays.{known_after}
use Rattle.history.specs.Chunks.{Chunk, chunk_key, key_in, key_of}
use Rattle.history.specs.Damaged.{IsDamaged}
use Rattle.history.specs.History.{History}
use Rattle.history.specs.Touch.{generation_of}
use Rattle.history.proofs.Laws.{some_inj}
use Rattle.kv_face.specs.Store.{Contents}
use Rattle.shared_state.specs.Agreement.{Opening, Agrees}
use Rattle.shared_state.specs.Fetches.{IsAnswered, IsChunkOf, bounds_in}
use Rattle.shared_state.specs.Kept.{IsCurrent}
use Rattle.shared_state.specs.Log.{Log}
use Rattle.shared_state.specs.Looks.{HasBounds, IsLook}
use Rattle.shared_state.specs.Seen.{StoreSeen}
use Rattle.shared_state.specs.declared.Bounds.{Bounds}
use Rattle.shared_state.specs.declared.Look.TheVariants as look
use Rattle.shared_state.proofs.Laws.{look_answered, decoded_damaged}
use Rattle.chunk_fetches.specs.Kept.{IsChunkThen, chunk_at}
use Rattle.chunk_fetches.specs.Looking.{IsLookedAt, AreLookedAt, IsFresh, AreFresh}
use Rattle.transaction_cells.specs.declared.view_cells.Piece.{Piece}
use Rattle.chunk_fetches.specs.Decoding.{HasDamagedAmong}
use Rattle.chunk_fetches.specs.declared.looked.Fresh.{Fresh}
use Rattle.chunk_fetches.specs.declared.looked.Looked.{Looked}

-- an answer of a state that agrees is the chunk then
chunk_then : (opening : Opening) (events : History) (c : Chunk) (store : StoreSeen) (log : Log) (snapshot : SnapshotCells) (bounds : Bounds) → log.events ≡ events → Agrees opening store log → IsChunkOf events c → IsAnswered store log c snapshot → HasBounds log c.array bounds
    → IsChunkThen opening events c snapshot bounds
chunk_then opening events c store log snapshot bounds same agrees chunk answered bounded =
    let known : known_after log.events c.array ≡ Some chunk.array = ap (λ h. known_after h c.array) same ∙ chunk.known in
    record {
      array = chunk.array;
      known = chunk.known;
      valid = chunk.valid;
      cells = answered.cells chunk.array known;
      generation = answered.generation ∙ ap (λ h. generation_of h c) same;
      bounded = bounded chunk.array known ∙ ap (λ h. bounds_in h c.array chunk.array) same;
      now = λ start told. subst (λ h. IsCurrent start h chunk.array c snapshot) same (answered.now opening start chunk.array agrees told known);
    }

-- a chunk that was kept
pub fresh_kept : (opening : Opening) (events : History) (c : Chunk) (l : Looked) (f : Fresh) → IsLookedAt opening events c l → l.look ≡ look.Kept f.snapshot f.bounds → f.key ≡ l.key → IsFresh opening events c f
fresh_kept opening events c l f h is key =
    let told = subst (IsLook h.store h.log c) is h.look in
    record {
      chunk = chunk_then opening events c h.store h.log f.snapshot f.bounds h.events_are h.agrees h.chunk told.0 told.1;
      key = h.key ∙ ap Some (sym key);
    }

-- one that was decoded
pub fresh_decoded : (opening : Opening) (events : History) (c : Chunk) (l : Looked) (f : Fresh) (generation : ℕ) (form : Form) (bytes : Option (List ℕ)) → IsLookedAt opening events c l → l.look ≡ look.Bytes generation form bytes f.bounds → f.key ≡ l.key
    → f.snapshot.generation ≡ generation → f.snapshot.cells.dtype ≡ dtype_of form → f.snapshot.cells.shape ≡ chunk_shape_of form
    → ((index : List ℕ) → IsInside (chunk_shape_of form) index → stored_word form (fill_of form) bytes index ≡ Some (word_at f.snapshot.cells index)) → IsFresh opening events c f
fresh_decoded opening events c l f generation form bytes h is key same dtype shape words =
    let told = subst (IsLook h.store h.log c) is h.look in
    record {
      chunk = chunk_then opening events c h.store h.log f.snapshot f.bounds h.events_are h.agrees h.chunk (look_answered h.store h.log c generation form bytes f.snapshot (opening, h.agrees) told.0 same dtype shape words) told.1;
      key = h.key ∙ ap Some (sym key);
    }

-- bytes that are no chunk
pub damaged_look : (opening : Opening) (events : History) (c : Chunk) (l : Looked) (generation : ℕ) (form : Form) (bytes : Option (List ℕ)) (bounds : Bounds) (cause : Damage) (start : Contents) → IsLookedAt opening events c l → l.look ≡ look.Bytes generation form bytes bounds
    → stored_fault form bytes ≡ Some cause → opening.store.contents ≡ Some start → IsDamaged start events c l.key cause
damaged_look opening events c l generation form bytes bounds cause start h is fault told =
    let look_is = (subst (IsLook h.store h.log c) is h.look).0 in
    let named : chunk_key look_is.array c.index ≡ l.key =
    some_inj (chunk_key look_is.array c.index) l.key (sym (ap (λ o. key_in o c) look_is.known) ∙ ap (λ x. key_of x c) h.events_are ∙ h.key) in
    subst (λ x. IsDamaged start x c l.key cause) h.events_are
    (decoded_damaged h.store h.log c l.key form bytes (opening, h.agrees) (record { array = look_is.array; known = look_is.known; valid = look_is.valid; named = named }) look_is.stored look_is.form_is (λ m e. look_is.held m e ∙ ap (finmap.get m) named) cause fault opening start h.agrees told)

-- a refusal for damaged bytes tells key and cause
abbrev pub refused : ReadError → Result Fresh ReadError
refused e = Err e

pub damaged_parts : (k key : List ℕ) (why cause : Damage) → refused (read.Damaged k why) ≡ refused (read.Damaged key cause) → (k ≡ key) × (why ≡ cause)
damaged_parts k key why cause is = (let h : k ≡ key = cc in h, let h : why ≡ cause = cc in h)

-- the cause that decoding tells
pub cause_told : (e : FormError) (why : Damage) (fault : Option Damage) → e ≡ form_error.Damaged why → (e ≢ form_error.Memory → (cause : Damage) × (e ≡ form_error.Damaged cause) × (fault ≡ Some cause)) → fault ≡ Some why
cause_told e why fault is causes =
    let told = causes (λ memory. let clash : form_error.Damaged why ≡ form_error.Memory = sym is ∙ memory in let no_such : ⊥ = cc in no_such) in
    let same : form_error.Damaged told.0 ≡ form_error.Damaged why = sym told.1 ∙ is in
    told.2 ∙ ap Some (let h : told.0 ≡ why = cc in h)

-- chunks that were looked at are cells
abbrev pub AreDecoded : List Looked → List Fresh → Type 0
AreDecoded looks fresh = (opening : Opening) (events : History) (pieces : List Piece) → AreLookedAt opening events pieces looks → AreFresh opening events pieces fresh

-- looks in two parts
pub record AreSplit (opening : Opening) (events : History) (pieces : List Piece) (front back : List Looked) : Type 0 where
  pub done : List Piece
  pub rest : List Piece
  pub all : pieces ≡ done ++ rest
  pub in_front : AreLookedAt opening events done front
  pub in_back : AreLookedAt opening events rest back

pub split_looks : (opening : Opening) (events : History) (pieces : List Piece) (front back : List Looked) → AreLookedAt opening events pieces (front ++ back) → AreSplit opening events pieces front back
split_looks opening events pieces [] back are = record { done = []; rest = pieces; all = refl; in_front = tt; in_back = are }
split_looks opening events [] (l ∷ front) back are = absurd are
split_looks opening events (p ∷ pieces) (l ∷ front) back are =
    let more = split_looks opening events pieces front back are.1 in
    record { done = p ∷ more.done; rest = more.rest; all = ap (λ ps. p ∷ ps) more.all; in_front = (are.0, more.in_front); in_back = more.in_back }

fresh_more : (opening : Opening) (events : History) (done : List Piece) (fresh : List Fresh) (p : Piece) (f : Fresh) → AreFresh opening events done fresh → IsFresh opening events (chunk_at p.id) f → AreFresh opening events (done ++ p ∷ []) (fresh ++ f ∷ [])
fresh_more opening events [] [] p f are is = (is, tt)
fresh_more opening events [] (g ∷ fresh) p f are is = absurd are
fresh_more opening events (q ∷ done) [] p f are is = absurd are
fresh_more opening events (q ∷ done) (g ∷ fresh) p f are is = (are.0, fresh_more opening events done fresh p f are.1 is)

-- one more
pub decoded_more : (looks : List Looked) (fresh : List Fresh) (l : Looked) (f : Fresh) → AreDecoded looks fresh → ((opening : Opening) (events : History) (c : Chunk) → IsLookedAt opening events c l → IsFresh opening events c f) → AreDecoded (looks ++ l ∷ []) (fresh ++ f ∷ [])
decoded_more looks fresh l f are is opening events pieces looked =
    let parts = split_looks opening events pieces looks (l ∷ []) looked in
    by parts.rest parts.in_back parts.all
  where
    by : (rest : List Piece) → AreLookedAt opening events rest (l ∷ []) → pieces ≡ (split_looks opening events pieces looks (l ∷ []) looked).done ++ rest → AreFresh opening events pieces (fresh ++ f ∷ [])
    by [] h all = absurd h
    by (p ∷ []) h all =
        let parts = split_looks opening events pieces looks (l ∷ []) looked in
        subst (λ ps. AreFresh opening events ps (fresh ++ f ∷ [])) (sym all) (fresh_more opening events parts.done fresh p f (are opening events parts.done parts.in_front) (is opening events (chunk_at p.id) h.0))
    by (p ∷ q ∷ rest) h all = absurd h.1

-- the first of the rest was looked at
pub looked_first : (opening : Opening) (events : History) (pieces : List Piece) (looks : List Looked) (l : Looked) (rest : List Looked) → AreLookedAt opening events pieces (looks ++ l ∷ rest) → (c : Chunk) × IsLookedAt opening events c l
looked_first opening events pieces looks l rest looked = by (split_looks opening events pieces looks (l ∷ rest) looked).rest (split_looks opening events pieces looks (l ∷ rest) looked).in_back
  where
    by : (ps : List Piece) → AreLookedAt opening events ps (l ∷ rest) → (c : Chunk) × IsLookedAt opening events c l
    by [] h = absurd h
    by (p ∷ ps) h = (chunk_at p.id, h.0)

-- it is the first that is damaged
pub damaged_first : (opening : Opening) (events : History) (pieces : List Piece) (looks : List Looked) (fresh : List Fresh) (l : Looked) (rest : List Looked) (key : List ℕ) (cause : Damage) → AreDecoded looks fresh → AreLookedAt opening events pieces (looks ++ l ∷ rest)
    → ((c : Chunk) (start : Contents) → IsLookedAt opening events c l → opening.store.contents ≡ Some start → IsDamaged start events c key cause) → HasDamagedAmong opening events pieces key cause
damaged_first opening events pieces looks fresh l rest key cause are looked damaged =
    let parts = split_looks opening events pieces looks (l ∷ rest) looked in
    by parts.rest parts.in_back parts.all
  where
    by : (ps : List Piece) → AreLookedAt opening events ps (l ∷ rest) → pieces ≡ (split_looks opening events pieces looks (l ∷ rest) looked).done ++ ps → HasDamagedAmong opening events pieces key cause
    by [] h all = absurd h
    by (p ∷ ps) h all =
        let parts = split_looks opening events pieces looks (l ∷ rest) looked in
        record {
          done = parts.done;
          piece = p;
          rest = ps;
          split = all;
          before = fresh;
          sound = are opening events parts.done parts.in_front;
          damaged = λ start told. damaged (chunk_at p.id) start h.0 told;
        }

pub decoded_none : AreDecoded [] []
decoded_none opening events [] are = tt
decoded_none opening events (p ∷ pieces) are = absurd are

pub none_of : {X : Type 0} (xs : List X) → length xs ≡ 0 → xs ≡ []
none_of [] is = refl
none_of (x ∷ xs) is = absurd (omega (arith, is))
