-- What is left of a chunk is what is kept of it behind the commit.
use Rattle.std.proofs.Common.{◌≡◌, ℕ, ◌+◌, ◌*◌, ◌<◌, List, [], ◌∷◌, ◌++◌, length, map, max, true, false, cond, Option, Some, None, refl, sym, ap, subst, ◌∙◌, arith}
use Rattle.std.specs.Prelude.{unwrap_or}
use Rattle.std.specs.Option.{ForSome}
use Rattle.cells.specs.Dense.{DenseCells}
use Rattle.cells.specs.Elements.{word_at}
use Rattle.cells.specs.Places.{IsInside, c_place}
use Rattle.kv_face.specs.Store.{Contents}
use Rattle.chunk_forms.specs.declared.form.Form.{Form}
use Rattle.chunk_forms.specs.Grammar.{WritesChunk}
use Rattle.chunk_forms.specs.Metadata.{shape_of, chunk_shape_of, fill_of, with_shape}
use Rattle.chunk_forms.specs.Words.{is_inside}
use Rattle.history.specs.declared.array.ArrayInfo.{ArrayInfo}
use Rattle.history.specs.declared.array.Home.{Home}
use Rattle.history.specs.declared.array.Home.TheVariants.{Zarr, N5, Zarr3, Local}
use Rattle.history.specs.declared.event.Op.{Op}
use Rattle.history.specs.History.{History}
use Rattle.history.specs.Arrays.{Known, known_after, form_of, is_local, chunk_shape, chunk_shape_in}
use Rattle.std.specs.List.{AllByRecursion}
use Rattle.stack_driver.specs.Targets.{Cell}
use Rattle.cells.proofs.Laws.{test-IsInside}
use Rattle.history.specs.Chunks.{Chunk, IsIndexOf, IsWholeIfLocal, cell_at, chunk_in, chunk_index, chunk_of, in_array}
use Rattle.history.proofs.Laws.{chunk_index-in_array, content_of_done, generation_touched, known_after-more, some_inj, shape_now, snapshot_longer}
use Rattle.history.proofs.Laws.{else_word, last_put}
use Rattle.history.specs.Commit.{Key, Transaction, done}
use Rattle.history.specs.Content.{content_after, cut_to, present_shape, word_outside}
use Rattle.history.specs.Legal.{IsLegal, IsAsKept}
use Rattle.history.specs.Snapshots.{IsSnapshotOf, box_in, chunk_box}
use Rattle.history.specs.Store.{IsChunkKept, shape_when_touched}
use Rattle.history.specs.Touch.{touches, generation_of}
use Rattle.history.specs.Writes.{puts_of}
use Rattle.rebase_writes.specs.Staged.{staged_at}
use Rattle.shared_state.specs.Kept.{IsCurrent}
use Rattle.chunk_laying.specs.Laid.{laid_word}
use Rattle.chunk_laying.proofs.Laws.{IsStagedBy, snapshot_of_covered, snapshot_of_laid}
use Rattle.chunk_plans.specs.Left.{AreBytesOf}
use Rattle.chunk_plans.specs.Under.{IsUnder, IsLeftNow, IsHeldOver}

-- the form of a stored array with its present shape
pub shape_told : (home : Home) (s : List ℕ) → is_local home ≡ false → shape_of (with_shape (form_of home) s) ≡ s
shape_told (Zarr mount path meta) s stored = refl
shape_told (N5 mount path meta) s stored = refl
shape_told (Zarr3 mount path meta) s stored = refl
shape_told (Local start) s stored = absurd (cc)

pub chunk_told : (home : Home) (shape s : List ℕ) → is_local home ≡ false → chunk_shape_of (with_shape (form_of home) s) ≡ chunk_shape_in home shape
chunk_told (Zarr mount path meta) shape s stored = refl
chunk_told (N5 mount path meta) shape s stored = refl
chunk_told (Zarr3 mount path meta) shape s stored = refl
chunk_told (Local start) shape s stored = absurd (cc)

pub fill_told : (info : ArrayInfo) (home : Home) (s : List ℕ) → is_local home ≡ false → IsAsKept info home → fill_of (with_shape (form_of home) s) ≡ info.fill
fill_told info (Zarr mount path meta) s stored as_kept = sym as_kept.fill
fill_told info (N5 mount path meta) s stored as_kept = sym as_kept.fill
fill_told info (Zarr3 mount path meta) s stored as_kept = sym as_kept.fill
fill_told info (Local start) s stored as_kept = absurd (cc)

writes_told : (home : Home) (index s bytes : List ℕ) (word : List ℕ → ℕ) → is_local home ≡ false → WritesChunk (with_shape (form_of home) s) index (shape_of (with_shape (form_of home) s)) bytes word → WritesChunk (form_of home) index s bytes word
writes_told (Zarr mount path meta) index s bytes word stored w = search
writes_told (N5 mount path meta) index s bytes word stored w = search
writes_told (Zarr3 mount path meta) index s bytes word stored w = search
writes_told (Local start) index s bytes word stored w = absurd (cc)

box_told : (home : Home) (shape : List ℕ) → is_local home ≡ false → box_in home shape ≡ chunk_shape_in home shape
box_told home shape stored = ap (λ b. cond b shape (chunk_shape_in home shape)) stored

in_full : (info : ArrayInfo) (at : List ℕ) → is_local info.home ≡ false → IsInside (chunk_shape info) at → IsInside (chunk_box info) at
in_full info at stored inside = subst (λ ns. IsInside ns at) (sym (box_told info.home info.shape stored)) inside

-- the bytes of a stored chunk's words are what is kept of it
pub kept_of_bytes : (start : Contents) (later : History) (k : Known) (c : Chunk) (generation : ℕ) (shape : List ℕ) (cells : DenseCells) (bytes : Option (List ℕ)) → is_local k.info.home ≡ false → IsAsKept k.info k.info.home
    → IsSnapshotOf start later k c generation (word_at cells) → AreBytesOf (with_shape (form_of k.info.home) shape) c.index (word_at cells) bytes → IsChunkKept start later k c shape bytes
kept_of_bytes start later k c generation shape cells None stored as_kept snapshot are = λ at inside.
    snapshot.cells at (in_full k.info at stored inside)
    ∙ ap Some (are at (subst (λ ns. IsInside ns at) (sym (chunk_told k.info.home k.info.shape shape stored)) inside) ∙ fill_told k.info k.info.home shape stored as_kept)
kept_of_bytes start later k c generation shape cells (Some bytes) stored as_kept snapshot are = (
  record { word = word_at cells; writes = writes_told k.info.home c.index shape bytes (word_at cells) stored are.0; cells = λ at inside. snapshot.cells at (in_full k.info at stored inside) },
  λ all. are.1
      (λ at inside.
      let within : IsInside (chunk_shape k.info) at = subst (λ ns. IsInside ns at) (chunk_told k.info.home k.info.shape shape stored) inside in
      some_inj (word_at cells at) k.info.fill (sym (snapshot.cells at (in_full k.info at stored within)) ∙ all at within) ∙ sym (fill_told k.info k.info.home shape stored as_kept)),
)

-- a local array with a cell has no size of 0, and its one chunk stands at the origin
no_zero : (shape at : List ℕ) → IsInside shape at → map (max 1) shape ≡ shape
no_zero [] at inside = refl
no_zero (size ∷ shape) [] inside = absurd inside
no_zero (size ∷ shape) (x ∷ at) inside = let one : max 1 size ≡ size = above x size inside.0 in ap (λ n. n ∷ map (max 1) shape) one ∙ ap (λ ns. size ∷ ns) (no_zero shape at inside.1)
  where
    above : (x size : ℕ) → x < size → max 1 size ≡ size
    above x size less = omega (arith, less)

full_shape : (home : Home) (shape at : List ℕ) → is_local home ≡ true → IsInside shape at → chunk_shape_in home shape ≡ shape
full_shape (Zarr mount path meta) shape at local inside = absurd (cc)
full_shape (N5 mount path meta) shape at local inside = absurd (cc)
full_shape (Zarr3 mount path meta) shape at local inside = absurd (cc)
full_shape (Local start) shape at local inside = no_zero shape at inside

whole_index : (home : Home) (index : List ℕ) → is_local home ≡ true → IsWholeIfLocal home index → AllByRecursion (λ c. c ≡ 0) index
whole_index (Zarr mount path meta) index local whole = absurd (cc)
whole_index (N5 mount path meta) index local whole = absurd (cc)
whole_index (Zarr3 mount path meta) index local whole = absurd (cc)
whole_index (Local start) index local whole = whole

from_zero : (n x : ℕ) → 0 * n + x ≡ x
from_zero n x = omega arith

at_origin : (ns index at : List ℕ) → AllByRecursion (λ c. c ≡ 0) index → length index ≡ length ns → IsInside ns at → in_array ns index at ≡ at
at_origin [] index [] zeros rank inside = refl
at_origin [] index (x ∷ at) zeros rank inside = absurd inside
at_origin (n ∷ ns) index [] zeros rank inside = absurd inside
at_origin (n ∷ ns) [] (x ∷ at) zeros rank inside = absurd (omega (arith, rank))
at_origin (n ∷ ns) (c ∷ index) (x ∷ at) zeros rank inside = ap (λ (z : ℕ). (z * n + x) ∷ in_array ns index at) zeros.0 ∙ ap (λ (y : ℕ). y ∷ in_array ns index at) (from_zero n x) ∙ ap (λ ys. x ∷ ys) (at_origin ns index at zeros.1 (omega (arith, rank)) inside.1)

in_chunk_of : (events : History) (k : Known) (c : Chunk) (index : List ℕ) → known_after events c.array ≡ Some k → IsIndexOf k.info c.index → IsInside (chunk_shape k.info) index → chunk_of events (cell_at k c index) ≡ c
in_chunk_of events k c index is valid inside =
    let at : chunk_index (chunk_shape k.info) (cell_at k c index).index ≡ c.index = chunk_index-in_array (chunk_shape k.info) c.index index inside valid.rank in
    let same : chunk_in (Some k) (cell_at k c index) ≡ c = λ i. record { array = c.array; index = at i } in
    ap (λ o. chunk_in o (cell_at k c index)) is ∙ same

put_over : (o : Option ℕ) (w : ℕ) → else_word o (Some w) ≡ Some (unwrap_or o w)
put_over None w = refl
put_over (Some v) w = refl

module _ (start : Contents) (events : History) (owner : ℕ) (t : Transaction) (ops : List Op) (key : Option Key) (k : Known) (c : Chunk) (staged : List (Option ℕ)) (known : known_after events c.array ≡ Some k) (valid : IsIndexOf k.info c.index) (touched : touches events (done owner t ops key) c ≡ true)
    (puts : IsStagedBy ops k c staged) where
  abbrev later : History
  later = events ++ done owner t ops key ∷ []

  module _ (stored : is_local k.info.home ≡ false) (as_kept : IsAsKept k.info k.info.home) where
    abbrev f : Form
    f = with_shape (form_of k.info.home) k.shape

    laid_told : (index : List ℕ) (base : Option DenseCells) (cells : DenseCells) → ((at : List ℕ) → IsInside (chunk_shape_of f) at → word_at cells at ≡ laid_word (shape_of f) (chunk_shape_of f) index (fill_of f) staged base at)
        → (at : List ℕ) → IsInside (chunk_shape k.info) at → word_at cells at ≡ laid_word k.shape (chunk_shape k.info) index k.info.fill staged base at
    laid_told index base cells laid =
        subst (λ (s : List ℕ). (at : List ℕ) → IsInside (chunk_shape k.info) at → word_at cells at ≡ laid_word s (chunk_shape k.info) index k.info.fill staged base at) (shape_told k.info.home k.shape stored)
        (subst (λ (w : ℕ). (at : List ℕ) → IsInside (chunk_shape k.info) at → word_at cells at ≡ laid_word (shape_of f) (chunk_shape k.info) index w staged base at) (fill_told k.info k.info.home k.shape stored as_kept)
        (subst (λ (n : List ℕ). (at : List ℕ) → IsInside n at → word_at cells at ≡ laid_word (shape_of f) n index (fill_of f) staged base at) (chunk_told k.info.home k.info.shape k.shape stored) laid))

    -- the snapshot behind the commit
    left_snapshot : (base : Option DenseCells) (cells : DenseCells) → IsUnder start events k c staged base
        → ((at : List ℕ) → IsInside (chunk_shape k.info) at → word_at cells at ≡ laid_word k.shape (chunk_shape k.info) c.index k.info.fill staged base at) → IsSnapshotOf start later k c (length events + 1) (word_at cells)
    left_snapshot None cells under laid = snapshot_of_covered start events owner t ops key k c staged None cells stored known valid touched puts under laid
    left_snapshot (Some base) cells under laid = snapshot_of_laid start events owner t ops key k c under.0 staged base cells stored under.1 touched puts laid

    shape_is : shape_when_touched later c ≡ k.shape
    shape_is = shape_now events (done owner t ops key) c touched ∙ ap present_shape (known_after-more events (done owner t ops key) c.array ∙ known)

    -- the cells that are left of a stored chunk are the chunk behind the commit
    pub current_of_left : (cells : DenseCells) (bytes : Option (List ℕ)) → IsLeftNow start events k c staged cells bytes → IsSnapshotOf start later k c (length events + 1) (word_at cells)
    current_of_left cells bytes now = left_snapshot now.base cells now.under (laid_told c.index now.base cells now.left.laid)

    -- and what is left of it is what is kept of it then
    pub kept_of_left : (cells : DenseCells) (bytes : Option (List ℕ)) → IsLeftNow start events k c staged cells bytes → IsChunkKept start later k c (shape_when_touched later c) bytes
    kept_of_left cells bytes now =
        subst (λ s. IsChunkKept start later k c s bytes) (sym shape_is)
        (kept_of_bytes start later k c (length events + 1) k.shape cells bytes stored as_kept (current_of_left cells bytes now) now.left.written)

    -- bytes that are planned are what is kept of the chunk then, and cells are the chunk
    pub right_of_left : (bytes : Option (List ℕ)) (kept : Option DenseCells) → (cells : DenseCells) × IsLeftNow start events k c staged cells bytes × ForSome kept (λ d. d ≡ cells)
        → IsChunkKept start later k c (shape_when_touched later c) bytes × ForSome kept (λ d. IsCurrent start later k c (record { generation = length events + 1; cells = d }))
    right_of_left bytes kept plan = (
      kept_of_left plan.0 bytes plan.1,
      λ d is. subst (λ (cells : DenseCells). IsSnapshotOf start later k c (length events + 1) (word_at cells)) (sym (plan.2 d is)) (current_of_left plan.0 bytes plan.1),
    )

  -- the cells of a local array behind the commit
  module _ (local : is_local k.info.home ≡ true) (whole : k.shape ≡ k.info.shape) where
    box_is : chunk_box k.info ≡ k.info.shape
    box_is = ap (λ b. cond b k.info.shape (chunk_shape k.info)) local

    word_there : (cells : DenseCells) (over : IsHeldOver start events k c staged cells) (at : List ℕ) → IsInside (chunk_box k.info) at → content_after start later (cell_at k c at) ≡ Some (word_at cells at)
    word_there cells over at inside =
        let x : Cell = cell_at k c at in
        let in_shape : IsInside k.info.shape at = subst (λ ns. IsInside ns at) box_is inside in
        let sizes : chunk_shape k.info ≡ k.info.shape = full_shape k.info.home k.info.shape at local in_shape in
        let in_chunk : IsInside (chunk_shape k.info) at = subst (λ ns. IsInside ns at) (sym sizes) in_shape in
        let same : x.index ≡ at = at_origin (chunk_shape k.info) c.index at (whole_index k.info.home c.index local valid.whole) valid.rank in_chunk in
        let here : is_inside k.shape x.index ≡ true = ap (is_inside k.shape) same ∙ ap (λ ns. is_inside ns at) whole ∙ test-IsInside k.info.shape at in_shape in
        let put = last_put (puts_of ops) x in
        content_of_done start events owner t ops key x (ap (touches events (done owner t ops key)) (in_chunk_of events k c at known valid in_chunk) ∙ touched)
        ∙ ap (λ o. cut_to o (present_shape o) x (else_word put (content_after start events x))) known ∙ ap (λ b. cond b (else_word put (content_after start events x)) (word_outside k.info.home k.info.fill)) here
        ∙ ap (else_word put) (over.snapshot.cells at inside) ∙ put_over put (word_at over.base at)
        ∙ ap Some
        (ap (λ o. unwrap_or o (word_at over.base at)) (sym (puts.cells at in_chunk here)) ∙ ap (λ ns. unwrap_or (staged_at staged (c_place ns at)) (word_at over.base at)) (sizes ∙ sym box_is) ∙ sym (over.words at inside))

    pub held_snapshot : (cells : DenseCells) → IsHeldOver start events k c staged cells → IsSnapshotOf start later k c (length events + 1) (word_at cells)
    held_snapshot cells over = record {
      known = known_after-more events (done owner t ops key) c.array ∙ known;
      valid = valid;
      current = sym (generation_touched events (done owner t ops key) c touched);
      cells = word_there cells over;
    }

-- what is under staged words, and so what is left, stays while no event touches the chunk and the array keeps its shape
module _ (start : Contents) (early late : History) (k : Known) (c : Chunk) (staged : List (Option ℕ)) (legal : IsLegal start (early ++ late)) (known : known_after (early ++ late) c.array ≡ Some k) (same : generation_of (early ++ late) c ≡ generation_of early c) where
  snapshot_then : (generation : ℕ) (word : List ℕ → ℕ) → IsSnapshotOf start early k c generation word → IsSnapshotOf start (early ++ late) k c generation word
  snapshot_then generation word snapshot =
      let l = snapshot_longer start early late k c generation word legal snapshot (snapshot.current ∙ sym same) in
      subst (λ m. IsSnapshotOf start (early ++ late) m c generation word) (some_inj l.0 k (sym l.2.known ∙ known)) l.2

  under_longer : (base : Option DenseCells) → IsUnder start early k c staged base → IsUnder start (early ++ late) k c staged base
  under_longer None under = under
  under_longer (Some base) under = (under.0, snapshot_then under.0 (word_at base) under.1)

  pub left_longer : (cells : DenseCells) (bytes : Option (List ℕ)) → IsLeftNow start early k c staged cells bytes → IsLeftNow start (early ++ late) k c staged cells bytes
  left_longer cells bytes left = record { base = left.base; under = under_longer left.base left.under; left = left.left }

  pub held_longer : (cells : DenseCells) → IsHeldOver start early k c staged cells → IsHeldOver start (early ++ late) k c staged cells
  held_longer cells over = record { base = over.base; generation = over.generation; snapshot = snapshot_then over.generation (word_at over.base) over.snapshot; words = over.words }
