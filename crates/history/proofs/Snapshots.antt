-- A snapshot of a chunk is right for as long as its generation is the chunk's.
use Rattle.std.proofs.Common.{◌≡◌, ◌≢◌, ℕ, ◌≤◌, ◌+◌, List, [], ◌∷◌, ◌++◌, length, map, arith, Bool, true, false, cond, eq-eqb, Option, Some, None, refl, sym, ap, subst, ◌∙◌}
use Rattle.std.specs.Prelude.{max, unwrap_or}
use Rattle.cells.specs.Places.{IsInside}
use Rattle.chunk_forms.specs.Words.{is_inside}
use Rattle.chunk_forms.specs.Grammar.{WritesChunk}
use Rattle.kv_face.specs.Store.{Contents}
use Rattle.stack_driver.specs.Targets.{Cell}
use Rattle.history.specs.declared.array.ArrayInfo.{ArrayInfo}
use Rattle.history.specs.declared.array.Home.{Home}
use Rattle.history.specs.declared.array.Home.TheVariants.{Zarr, N5, Zarr3, Local}
use Rattle.history.specs.declared.event.Event.{Event}
use Rattle.history.specs.declared.event.Op.{Op}
use Rattle.history.specs.History.{History}
use Rattle.history.specs.Arrays.{Known, known_after, known_reshaped, form_of, is_local, chunk_shape, chunk_shape_in}
use Rattle.history.specs.Chunks.{Chunk, IsIndexOf, cell_at, in_array, chunk_index, chunk_in, chunk_of}
use Rattle.history.specs.Commit.{Key, Transaction, done}
use Rattle.history.specs.Own.{resized_event}
use Rattle.history.specs.Touch.{touches, generation_of}
use Rattle.history.specs.Writes.{puts_of}
use Rattle.history.specs.Content.{content_after, cut_to, present_shape, word_outside}
use Rattle.history.specs.Legal.{IsLegal}
use Rattle.history.specs.Store.{IsChunkKept}
use Rattle.history.specs.Snapshots.{IsSnapshotOf, box_in, chunk_box}
use Rattle.history.proofs.Geometry.{chunk_index-in_array}
use Rattle.history.proofs.Generations.{generation_of-le-length}
use Rattle.history.proofs.GenerationTables.{as_opened}
use Rattle.history.proofs.Conflicts.{itself}
use Rattle.history.proofs.Longer.{known-longer}
use Rattle.history.proofs.Moments.{unchanged_between}
use Rattle.history.proofs.Histories.{known_after-more}
use Rattle.history.proofs.Known.{some_inj}
use Rattle.history.proofs.Touching.{content_of_done, content_of_resize}
use Rattle.history.proofs.Untouched.{generation_touched}
use Rattle.history.proofs.Written.{else_word, last_put}

-- an array by another shape has the same chunks
same_cell : (k l : Known) (c : Chunk) (index : List ℕ) → l.info ≡ k.info → cell_at l c index ≡ cell_at k c index
same_cell k l c index same = ap (λ (i : ArrayInfo). record { array = c.array; index = in_array (chunk_shape i) c.index index }) same

inside_one_more : (shape index : List ℕ) → IsInside shape index → IsInside (map (max 1) shape) index
inside_one_more [] [] inside = inside
inside_one_more [] (i ∷ index) inside = inside
inside_one_more (size ∷ shape) [] inside = inside
inside_one_more (size ∷ shape) (i ∷ index) inside = let low = inside.0 in (omega arith, inside_one_more shape index inside.1)

-- a chunk's cells lie within its shape
in_box : (home : Home) (shape index : List ℕ) → IsInside (box_in home shape) index → IsInside (chunk_shape_in home shape) index
in_box (Zarr mount path meta) shape index inside = inside
in_box (N5 mount path meta) shape index inside = inside
in_box (Zarr3 mount path meta) shape index inside = inside
in_box (Local start) shape index inside = inside_one_more shape index inside

-- a chunk's cell is in it
in_chunk : (events : History) (k : Known) (c : Chunk) (index : List ℕ) → known_after events c.array ≡ Some k → IsIndexOf k.info c.index → IsInside (chunk_shape k.info) index → chunk_of events (cell_at k c index) ≡ c
in_chunk events k c index is valid inside =
    let at : chunk_index (chunk_shape k.info) (cell_at k c index).index ≡ c.index = chunk_index-in_array (chunk_shape k.info) c.index index inside valid.rank in
    let same : chunk_in (Some k) (cell_at k c index) ≡ c = λ i. record { array = c.array; index = at i } in
    ap (λ o. chunk_in o (cell_at k c index)) is ∙ same

pub snapshot_longer : (start : Contents) (early late : History) (k : Known) (c : Chunk) (generation : ℕ) (word : List ℕ → ℕ) → IsLegal start (early ++ late) → IsSnapshotOf start early k c generation word → generation ≡ generation_of (early ++ late) c
    → (l : Known) × (l.info ≡ k.info) × IsSnapshotOf start (early ++ late) l c generation word
snapshot_longer start early late k c generation word legal snapshot now =
    let l = as_opened k.info k.opened (known_after (early ++ late) c.array) (known-longer start early c.array k.info k.opened (itself (known_after early c.array) k snapshot.known) late legal) in
    let small : generation_of (early ++ late) c ≤ length early = subst (λ g. g ≤ length early) (sym snapshot.current ∙ now) (generation_of-le-length early c) in
    let kept = unchanged_between start early c late small in (
      l.0,
      l.2,
      record {
        known = l.1;
        valid = subst (λ (i : ArrayInfo). IsIndexOf i c.index) (sym l.2) snapshot.valid;
        current = now;
        cells = λ index inside.
            let within : IsInside (chunk_box k.info) index = subst (λ (i : ArrayInfo). IsInside (chunk_box i) index) l.2 inside in
            ap (content_after start (early ++ late)) (same_cell k l.0 c index l.2) ∙ kept.content (cell_at k c index) (in_chunk early k c index snapshot.known snapshot.valid (in_box k.info.home k.info.shape index within)) ∙ snapshot.cells index within;
      },
    )

-- past its shape a stored array has the fill
outside_stored : (home : Home) (fill : ℕ) → is_local home ≡ false → word_outside home fill ≡ Some fill
outside_stored (Zarr mount path meta) fill stored = refl
outside_stored (N5 mount path meta) fill stored = refl
outside_stored (Zarr3 mount path meta) fill stored = refl
outside_stored (Local start) fill stored = absurd (cc)

cut_word : (k : Known) (shape : List ℕ) (x : Cell) (w : ℕ) → is_local k.info.home ≡ false → cut_to (Some k) shape x (Some w) ≡ Some (cond (is_inside shape x.index) w k.info.fill)
cut_word k shape x w stored = by (is_inside shape x.index)
  where
    by : (b : Bool) → cond b (Some w) (word_outside k.info.home k.info.fill) ≡ Some (cond b w k.info.fill)
    by true = refl
    by false = outside_stored k.info.home k.info.fill stored

-- a chunk's words once operations have put words over them: the last one at each cell, and past the shape the fill
abbrev pub words_over : Known → List Op → Chunk → (List ℕ → ℕ) → List ℕ → ℕ
words_over k ops c word index = cond (is_inside k.shape (cell_at k c index).index) (unwrap_or (last_put (puts_of ops) (cell_at k c index)) (word index)) k.info.fill

-- and once the array has another shape
abbrev pub words_cut : Known → List ℕ → Chunk → (List ℕ → ℕ) → List ℕ → ℕ
words_cut k shape c word index = cond (is_inside shape (cell_at k c index).index) (word index) k.info.fill

put_or : (o : Option ℕ) (w : ℕ) → else_word o (Some w) ≡ Some (unwrap_or o w)
put_or None w = refl
put_or (Some v) w = refl

-- the snapshot of a stored chunk that a commit touches
pub snapshot_of_done : (start : Contents) (events : History) (owner : ℕ) (t : Transaction) (ops : List Op) (key : Option Key) (k : Known) (c : Chunk) (generation : ℕ) (word : List ℕ → ℕ) → is_local k.info.home ≡ false → IsSnapshotOf start events k c generation word
    → touches events (done owner t ops key) c ≡ true → IsSnapshotOf start (events ++ done owner t ops key ∷ []) k c (length events + 1) (words_over k ops c word)
snapshot_of_done start events owner t ops key k c generation word stored snapshot touched =
    let e : Event = done owner t ops key in record {
      known = known_after-more events e c.array ∙ snapshot.known;
      valid = snapshot.valid;
      current = sym (generation_touched events e c touched);
      cells = λ index inside.
          let x : Cell = cell_at k c index in
          let in_c : chunk_of events x ≡ c = in_chunk events k c index snapshot.known snapshot.valid (in_box k.info.home k.info.shape index inside) in
          content_of_done start events owner t ops key x (ap (touches events e) in_c ∙ touched)
          ∙ ap (λ o. cut_to o (present_shape o) x (else_word (last_put (puts_of ops) x) (content_after start events x))) snapshot.known
          ∙ ap (λ w. cut_to (Some k) k.shape x (else_word (last_put (puts_of ops) x) w)) (snapshot.cells index inside) ∙ ap (cut_to (Some k) k.shape x) (put_or (last_put (puts_of ops) x) (word index))
          ∙ cut_word k k.shape x (unwrap_or (last_put (puts_of ops) x) (word index)) stored;
    }

-- and of one that a new shape cuts
pub snapshot_of_resize : (start : Contents) (events : History) (owner : ℕ) (shape : List ℕ) (k : Known) (c : Chunk) (generation : ℕ) (word : List ℕ → ℕ) → is_local k.info.home ≡ false → IsSnapshotOf start events k c generation word
    → touches events (resized_event owner c.array shape) c ≡ true → IsSnapshotOf start (events ++ resized_event owner c.array shape ∷ []) (record k { shape = shape }) c (length events + 1) (words_cut k shape c word)
snapshot_of_resize start events owner shape k c generation word stored snapshot touched =
    let e : Event = resized_event owner c.array shape in record {
      known = known_after-more events e c.array ∙ ap (λ b. cond b (known_reshaped shape (known_after events c.array)) (known_after events c.array)) (eq-eqb c.array c.array refl) ∙ ap (known_reshaped shape) snapshot.known;
      valid = snapshot.valid;
      current = sym (generation_touched events e c touched);
      cells = λ index inside.
          let x : Cell = cell_at k c index in
          let in_c : chunk_of events x ≡ c = in_chunk events k c index snapshot.known snapshot.valid (in_box k.info.home k.info.shape index inside) in
          content_of_resize start events owner c.array shape x (ap (touches events e) in_c ∙ touched) ∙ ap (λ o. cut_to o shape x (content_after start events x)) snapshot.known ∙ ap (cut_to (Some k) shape x) (snapshot.cells index inside)
          ∙ cut_word k shape x (word index) stored;
    }

-- the words of a stored chunk tell what is kept of it: nothing where all are the fill, else the bytes that are written for them
stored_inside : (home : Home) (shape index : List ℕ) → is_local home ≡ false → IsInside (chunk_shape_in home shape) index → IsInside (box_in home shape) index
stored_inside home shape index stored inside = subst (λ ns. IsInside ns index) (sym (ap (λ b. cond b shape (chunk_shape_in home shape)) stored)) inside

pub kept_of_fill : (start : Contents) (events : History) (k : Known) (c : Chunk) (generation : ℕ) (word : List ℕ → ℕ) (shape : List ℕ) → is_local k.info.home ≡ false → IsSnapshotOf start events k c generation word
    → ((index : List ℕ) → IsInside (chunk_shape k.info) index → word index ≡ k.info.fill) → IsChunkKept start events k c shape None
kept_of_fill start events k c generation word shape stored snapshot all index inside = snapshot.cells index (stored_inside k.info.home k.info.shape index stored inside) ∙ ap Some (all index inside)

-- a cell whose word isn't the fill
pub record HasOther (k : Known) (word : List ℕ → ℕ) : Type 0 where
  pub index : List ℕ
  pub inside : IsInside (chunk_shape k.info) index
  pub other : word index ≢ k.info.fill

pub kept_of_words : (start : Contents) (events : History) (k : Known) (c : Chunk) (generation : ℕ) (word : List ℕ → ℕ) (shape bytes : List ℕ) → is_local k.info.home ≡ false → IsSnapshotOf start events k c generation word
    → WritesChunk (form_of k.info.home) c.index shape bytes word → HasOther k word → IsChunkKept start events k c shape (Some bytes)
kept_of_words start events k c generation word shape bytes stored snapshot writes other = (
  record { word = word; writes = writes; cells = λ index inside. snapshot.cells index (stored_inside k.info.home k.info.shape index stored inside) },
  λ all. other.other (some_inj (word other.index) k.info.fill (sym (snapshot.cells other.index (stored_inside k.info.home k.info.shape other.index stored other.inside)) ∙ all other.index other.inside)),
)
