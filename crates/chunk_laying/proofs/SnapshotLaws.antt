-- A chunk that was laid or cut is the snapshot behind the event that does it.
use Rattle.std.proofs.Common.{◌≡◌, ℕ, ◌+◌, List, [], ◌∷◌, ◌++◌, length, Bool, true, false, cond, Option, Some, None, refl, sym, ap, subst, ◌∙◌}
use Rattle.std.specs.Prelude.{IsSome, unwrap_or}
use Rattle.cells.specs.Dense.{DenseCells}
use Rattle.cells.specs.Elements.{word_at}
use Rattle.cells.specs.Places.{IsInside, c_place}
use Rattle.cells.specs.Shapes.{is_inside}
use Rattle.kv_face.specs.Store.{Contents}
use Rattle.history.specs.Targets.{Cell}
use Rattle.rebase_writes.specs.Staged.{staged_at}
use Rattle.history.specs.declared.array.Home.{Home}
use Rattle.history.specs.declared.array.Home.TheVariants.{Zarr, N5, Zarr3, Local}
use Rattle.history.specs.declared.event.Event.{Event}
use Rattle.history.specs.declared.event.Op.{Op}
use Rattle.history.specs.History.{History}
use Rattle.history.specs.Arrays.{Known, known_after, is_local, chunk_shape, chunk_shape_in}
use Rattle.history.specs.Chunks.{Chunk, IsIndexOf, cell_at, chunk_index, chunk_in, chunk_of, in_array}
use Rattle.history.specs.Commit.{Key, Transaction, done}
use Rattle.history.specs.Content.{content_after, cut_to, present_shape, word_outside}
use Rattle.history.specs.Own.{resized_event}
use Rattle.history.specs.Snapshots.{IsSnapshotOf, chunk_box, box_in}
use Rattle.history.specs.Touch.{touches}
use Rattle.history.specs.Writes.{puts_of}
use Rattle.history.proofs.Laws.{chunk_index-in_array, known_after-more, snapshot_of_done, snapshot_of_resize, words_over, words_cut, content_of_done, generation_touched, last_put, else_word}
use Rattle.chunk_laying.specs.Laid.{IsCovered, laid_word, cut_word, word_under}

-- what is staged for a chunk is what operations put there last, at each cell in the array's shape
pub record IsStagedBy (ops : List Op) (k : Known) (c : Chunk) (staged : List (Option ℕ)) : Type 0 where
  pub cells : (index : List ℕ) → IsInside (chunk_shape k.info) index → is_inside k.shape (cell_at k c index).index ≡ true
      → staged_at staged (c_place (chunk_shape k.info) index) ≡ last_put (puts_of ops) (cell_at k c index)

-- words that are equal at each cell of the chunk make the same snapshot
pub snapshot_same : (start : Contents) (events : History) (k : Known) (c : Chunk) (generation : ℕ) (word other : List ℕ → ℕ) → ((index : List ℕ) → IsInside (chunk_box k.info) index → word index ≡ other index)
    → IsSnapshotOf start events k c generation word → IsSnapshotOf start events k c generation other
snapshot_same start events k c generation word other same snapshot = record {
  known = snapshot.known;
  valid = snapshot.valid;
  current = snapshot.current;
  cells = λ index inside. snapshot.cells index inside ∙ ap Some (same index inside);
}

-- a stored array's chunks have their full shape
box_stored : (home : Home) (shape index : List ℕ) → is_local home ≡ false → IsInside (box_in home shape) index → IsInside (chunk_shape_in home shape) index
box_stored home shape index stored inside = subst (λ ns. IsInside ns index) (ap (λ b. cond b shape (chunk_shape_in home shape)) stored) inside

same_within : (b : Bool) (x y fill : ℕ) → (b ≡ true → x ≡ y) → cond b x fill ≡ cond b y fill
same_within true x y fill same = same refl
same_within false x y fill same = refl

-- staged words that are laid over a stored chunk's words are its words behind the commit
pub snapshot_of_laid : (start : Contents) (events : History) (owner : ℕ) (t : Transaction) (ops : List Op) (key : Option Key) (k : Known) (c : Chunk) (generation : ℕ) (staged : List (Option ℕ)) (base laid : DenseCells) → is_local k.info.home ≡ false
    → IsSnapshotOf start events k c generation (word_at base) → touches events (done owner t ops key) c ≡ true → IsStagedBy ops k c staged
    → ((index : List ℕ) → IsInside (chunk_shape k.info) index → word_at laid index ≡ laid_word k.shape (chunk_shape k.info) c.index k.info.fill staged (Some base) index)
    → IsSnapshotOf start (events ++ done owner t ops key ∷ []) k c (length events + 1) (word_at laid)
snapshot_of_laid start events owner t ops key k c generation staged base laid stored snapshot touched puts words =
    snapshot_same start (events ++ done owner t ops key ∷ []) k c (length events + 1) (words_over k ops c (word_at base)) (word_at laid)
    (λ index inside.
    let within = box_stored k.info.home k.info.shape index stored inside in
    sym (words index within
    ∙ same_within (is_inside k.shape (in_array (chunk_shape k.info) c.index index)) (unwrap_or (staged_at staged (c_place (chunk_shape k.info) index)) (word_at base index)) (unwrap_or (last_put (puts_of ops) (cell_at k c index)) (word_at base index)) k.info.fill
    (λ here. ap (λ o. unwrap_or o (word_at base index)) (puts.cells index within here))))
    (snapshot_of_done start events owner t ops key k c generation (word_at base) stored snapshot touched)

-- a chunk's cell is in it
in_chunk : (events : History) (k : Known) (c : Chunk) (index : List ℕ) → known_after events c.array ≡ Some k → IsIndexOf k.info c.index → IsInside (chunk_shape k.info) index → chunk_of events (cell_at k c index) ≡ c
in_chunk events k c index is valid inside =
    let at : chunk_index (chunk_shape k.info) (cell_at k c index).index ≡ c.index = chunk_index-in_array (chunk_shape k.info) c.index index inside valid.rank in
    let same : chunk_in (Some k) (cell_at k c index) ≡ c = λ i. record { array = c.array; index = at i } in
    ap (λ o. chunk_in o (cell_at k c index)) is ∙ same

-- past its shape a stored array has the fill
outside_stored : (home : Home) (fill : ℕ) → is_local home ≡ false → word_outside home fill ≡ Some fill
outside_stored (Zarr mount path meta) fill stored = refl
outside_stored (N5 mount path meta) fill stored = refl
outside_stored (Zarr3 mount path meta) fill stored = refl
outside_stored (Local start) fill stored = absurd (let no_such : ⊥ = cc in no_such)

put_word : (o before : Option ℕ) (under : ℕ) → IsSome o → else_word o before ≡ Some (unwrap_or o under)
put_word None before under some = absurd (let no_such : ⊥ = cc in no_such)
put_word (Some w) before under some = refl

covered_cell : (b : Bool) (o before : Option ℕ) (under fill : ℕ) (outside : Option ℕ) → outside ≡ Some fill → (b ≡ true → IsSome o) → cond b (else_word o before) outside ≡ Some (cond b (unwrap_or o under) fill)
covered_cell true o before under fill outside is some = put_word o before under (some refl)
covered_cell false o before under fill outside is some = is

some_within : (b : Bool) (o p : Option ℕ) → (b ≡ true → o ≡ p) → (b ≡ true → IsSome o) → b ≡ true → IsSome p
some_within b o p same some is = subst IsSome (same is) (some is)

-- where the staged words cover the chunk, the words that it had don't matter: not even whether it had any
pub snapshot_of_covered : (start : Contents) (events : History) (owner : ℕ) (t : Transaction) (ops : List Op) (key : Option Key) (k : Known) (c : Chunk) (staged : List (Option ℕ)) (base : Option DenseCells) (laid : DenseCells) → is_local k.info.home ≡ false
    → known_after events c.array ≡ Some k → IsIndexOf k.info c.index → touches events (done owner t ops key) c ≡ true → IsStagedBy ops k c staged → IsCovered k.shape (chunk_shape k.info) c.index staged
    → ((index : List ℕ) → IsInside (chunk_shape k.info) index → word_at laid index ≡ laid_word k.shape (chunk_shape k.info) c.index k.info.fill staged base index)
    → IsSnapshotOf start (events ++ done owner t ops key ∷ []) k c (length events + 1) (word_at laid)
snapshot_of_covered start events owner t ops key k c staged base laid stored known valid touched puts covered words =
    let e : Event = done owner t ops key in record {
      known = known_after-more events e c.array ∙ known;
      valid = valid;
      current = sym (generation_touched events e c touched);
      cells = λ index inside.
          let x : Cell = cell_at k c index in
          let within = box_stored k.info.home k.info.shape index stored inside in
          let in_c : chunk_of events x ≡ c = in_chunk events k c index known valid within in
          let place = c_place (chunk_shape k.info) index in
          let some = some_within (is_inside k.shape x.index) (staged_at staged place) (last_put (puts_of ops) x) (puts.cells index within) (covered index within) in
          content_of_done start events owner t ops key x (ap (touches events e) in_c ∙ touched)
          ∙ ap (λ o. cut_to o (present_shape o) x (else_word (last_put (puts_of ops) x) (content_after start events x))) known
          ∙ covered_cell (is_inside k.shape x.index) (last_put (puts_of ops) x) (content_after start events x) 0 k.info.fill (word_outside k.info.home k.info.fill) (outside_stored k.info.home k.info.fill stored) some
          ∙ ap Some (sym (words index within ∙ covered_word (word_under base k.info.fill index) (is_inside k.shape x.index) (staged_at staged place) (last_put (puts_of ops) x) k.info.fill (puts.cells index within) (covered index within)));
    }
  where
    plain : (o : Option ℕ) (u v : ℕ) → IsSome o → unwrap_or o u ≡ unwrap_or o v
    plain None u v some = absurd (let no_such : ⊥ = cc in no_such)
    plain (Some w) u v some = refl

    covered_word : (u : ℕ) (b : Bool) (o p : Option ℕ) (fill : ℕ) → (b ≡ true → o ≡ p) → (b ≡ true → IsSome o) → cond b (unwrap_or o u) fill ≡ cond b (unwrap_or p 0) fill
    covered_word u true o p fill same some = plain o u 0 (some refl) ∙ ap (λ q. unwrap_or q 0) (same refl)
    covered_word u false o p fill same some = refl

-- a stored chunk's words that were cut are its words behind the resize
pub snapshot_of_cut : (start : Contents) (events : History) (owner : ℕ) (shape : List ℕ) (k : Known) (c : Chunk) (generation : ℕ) (base cut : DenseCells) → is_local k.info.home ≡ false → base.shape ≡ chunk_shape k.info
    → IsSnapshotOf start events k c generation (word_at base) → touches events (resized_event owner c.array shape) c ≡ true
    → ((index : List ℕ) → IsInside (chunk_shape k.info) index → word_at cut index ≡ cut_word shape c.index k.info.fill base index)
    → IsSnapshotOf start (events ++ resized_event owner c.array shape ∷ []) (record k { shape = shape }) c (length events + 1) (word_at cut)
snapshot_of_cut start events owner shape k c generation base cut stored sizes snapshot touched words =
    snapshot_same start (events ++ resized_event owner c.array shape ∷ []) (record k { shape = shape }) c (length events + 1) (words_cut k shape c (word_at base)) (word_at cut)
    (λ index inside.
    sym (words index (box_stored k.info.home k.info.shape index stored inside) ∙ ap (λ ns. cond (is_inside shape (in_array ns c.index index)) (word_at base index) k.info.fill) sizes))
    (snapshot_of_resize start events owner shape k c generation (word_at base) stored snapshot touched)
