-- What other crates rest on: shapes, ranks and references of arrays of a legal history, and that names of chunks are told.
use Rattle.std.proofs.Common.{◌≡◌, inl, inr, ℕ, zero, suc, ◌-◌, ◌<◌, ◌≤◌, ◌^◌, List, [], ◌∷◌, ◌++◌, length, map, true, false, Option, Some, IsTrue, refl, sym, ap, subst, ◌∙◌, arith}
use Rattle.std.specs.Prelude.{max, slice_index}
use Rattle.std.specs.List.{AllByRecursion}
use Rattle.cells.specs.Shapes.{IsShape, IsChunkShape}
use Rattle.kv_face.specs.Store.{Contents}
use Rattle.history.specs.declared.Form.{Form}
use Rattle.history.specs.declared.Form.TheVariants as form
use Rattle.history.specs.declared.Want.{Want}
use Rattle.history.specs.declared.Want.TheVariants as want
use Rattle.history.specs.Metadata.{is_local as is_local_form}
use Rattle.history.specs.Wants.{is_asked_form}
use Rattle.history.specs.References.{Reference, IsReference}
use Rattle.history.specs.declared.array.ArrayInfo.{ArrayInfo}
use Rattle.history.specs.declared.array.Home.{Home}
use Rattle.history.specs.declared.array.Home.TheVariants.{Zarr, N5, Zarr3, Local}
use Rattle.history.specs.History.{History}
use Rattle.history.specs.Arrays.{Known, known_after, chunk_shape_in, is_local, ref_of}
use Rattle.history.specs.Chunks.{IsIndexOf}
use Rattle.history.specs.Leaves.{Leaf, location_of_leaf}
use Rattle.history.specs.Legal.{IsLegal, IsAsKept, MayTake}
use Rattle.history.specs.Outcomes.{home_of, new_info}
use Rattle.history.specs.Places.{location}
use Rattle.history.proofs.Laws.{each_history, legal_step, known_split, no_array, opening_of, resize_of, known_good, kept_rank}
use Rattle.array_homes.specs.Names.{HasRank}
use Rattle.array_homes.specs.Homes.{MayHaveShape, info_at, reference_of}

-- an index of the rank of the array's chunks has the rank that its key wants
pub rank_in : (home : Home) (shape index : List ℕ) → length index ≡ length (chunk_shape_in home shape) → HasRank home index
rank_in (Zarr mount path meta) shape index is = is
rank_in (N5 mount path meta) shape index is = is
rank_in (Zarr3 mount path meta) shape index is = is
rank_in (Local start) shape index is = tt

-- the index of a chunk has the rank that its key wants
pub rank_of_index : (info : ArrayInfo) (index : List ℕ) → IsIndexOf info index → HasRank info.home index
rank_of_index info index is = rank_in info.home info.shape index is.rank

-- an array's shape of the rank of its chunks is one that it may have
pub shape_in : (home : Home) (first shape : List ℕ) → IsShape shape → length shape ≡ length (chunk_shape_in home first) → MayHaveShape home shape
shape_in (Zarr mount path meta) first shape rules rank = (rules, rank)
shape_in (N5 mount path meta) first shape rules rank = (rules, rank)
shape_in (Zarr3 mount path meta) first shape rules rank = (rules, rank)
shape_in (Local start) first shape rules rank = tt

-- a local array is one chunk
pub whole_in : (home : Home) (shape : List ℕ) → is_local home ≡ true → chunk_shape_in home shape ≡ map (max 1) shape
whole_in (Zarr mount path meta) shape run = absurd (cc)
whole_in (N5 mount path meta) shape run = absurd (cc)
whole_in (Zarr3 mount path meta) shape run = absurd (cc)
whole_in (Local start) shape run = refl

-- the array that a leaf opens is the one at its place
pub info_at-leaf : (number : ℕ) (leaf : Leaf) (meta : Form) → info_at number leaf.mount leaf.path meta ≡ new_info number leaf meta
info_at-leaf number leaf meta = refl

-- metadata of a format that is asked is stored
pub asked_stored : (w : Want) (meta : Form) → is_asked_form w meta ≡ true → is_local_form meta ≡ false
asked_stored w (form.Zarr m) asked = refl
asked_stored w (form.N5 m) asked = refl
asked_stored w (form.Zarr3 m) asked = refl
asked_stored (want.Zarr w) form.Local asked = absurd (cc)
asked_stored (want.N5 w) form.Local asked = absurd (cc)
asked_stored (want.Zarr3 w) form.Local asked = absurd (cc)

stored_location : (leaf : Leaf) (meta : Form) → is_local_form meta ≡ false → location (home_of leaf.mount leaf.path meta) ≡ Some (location_of_leaf leaf)
stored_location leaf (form.Zarr m) stored = refl
stored_location leaf (form.N5 m) stored = refl
stored_location leaf (form.Zarr3 m) stored = refl
stored_location leaf form.Local stored = absurd (cc)

-- and an array with it lies at its leaf's place
pub asked_location : (leaf : Leaf) (meta : Form) → is_asked_form leaf.want meta ≡ true → location (home_of leaf.mount leaf.path meta) ≡ Some (location_of_leaf leaf)
asked_location leaf meta asked = stored_location leaf meta (asked_stored leaf.want meta asked)

-- the reference of an array of the history
pub reference_of-known : (k : Known) → reference_of k.info k.shape ≡ ref_of k
reference_of-known k = refl

-- an array's first shape is one that it may have
first_shape : (info : ArrayInfo) (home : Home) → IsAsKept info home → MayHaveShape home info.shape
first_shape info (Zarr mount path meta) is = (subst IsShape (sym is.shape) is.valid.shape, ap length is.shape ∙ sym is.valid.ranks)
first_shape info (N5 mount path meta) is = (subst IsShape (sym is.shape) is.valid.dimensions, ap length is.shape ∙ sym is.valid.ranks)
first_shape info (Zarr3 mount path meta) is = (subst IsShape (sym is.shape) is.valid.shape, ap length is.shape ∙ sym is.valid.ranks)
first_shape info (Local start) is = tt

size_at : (sizes : List ℕ) → AllByRecursion (λ s. s ≤ 2 ^ 62 - 2) sizes → (k : ℕ) → k < length sizes → slice_index sizes k ≤ 2 ^ 62 - 2
size_at [] small k less = absurd (omega arith)
size_at (s ∷ sizes) small zero less = small.0
size_at (s ∷ sizes) small (suc k) less = size_at sizes small.1 k (omega arith)

next_rank : (info : ArrayInfo) (home : Home) (shape : List ℕ) → IsAsKept info home → length shape ≡ length info.shape → AllByRecursion (λ s. s ≤ 2 ^ 62 - 2) shape → MayHaveShape home shape
next_rank info (Zarr mount path meta) shape is rank small =
    let first = first_shape info (Zarr mount path meta) is in
    let most : length info.shape ≤ 32 = first.0.rank in
    (record { rank = omega (arith, rank, most); sizes = size_at shape small }, rank ∙ first.1)
next_rank info (N5 mount path meta) shape is rank small =
    let first = first_shape info (N5 mount path meta) is in
    let most : length info.shape ≤ 32 = first.0.rank in
    (record { rank = omega (arith, rank, most); sizes = size_at shape small }, rank ∙ first.1)
next_rank info (Zarr3 mount path meta) shape is rank small =
    let first = first_shape info (Zarr3 mount path meta) is in
    let most : length info.shape ≤ 32 = first.0.rank in
    (record { rank = omega (arith, rank, most); sizes = size_at shape small }, rank ∙ first.1)
next_rank info (Local start) shape is rank small = tt

-- a shape that a resize may give an array
pub taken_shape : (k : Known) (shape : List ℕ) → IsAsKept k.info k.info.home → MayTake k shape → MayHaveShape k.info.home shape
taken_shape k shape kept may = next_rank k.info k.info.home shape kept may.rank may.sizes

-- a stored array has a shape that it may have, and one of the run has its first
pub record IsShaped (k : Known) : Type 0 where
  pub stored : MayHaveShape k.info.home k.shape
  pub local : is_local k.info.home ≡ true → k.shape ≡ k.info.shape

-- each array of a legal history
pub known_shaped : (start : Contents) (a : ℕ) (events : History) → IsLegal start events → (k : Known) → known_after events a ≡ Some k → IsShaped k
known_shaped start a =
    each_history (λ h. IsLegal start h → (k : Known) → known_after h a ≡ Some k → IsShaped k) (λ legal k is. absurd (no_array a k is))
    (λ h e before legal k is.
    let parts = legal_step start h e legal in
    elim (known_split h e a k is) [
      | inl new ↦
          let opening = opening_of start h e.kind new.0 new.1 parts.1 in
          subst IsShaped (sym new.3) (record { stored = first_shape new.0 new.0.home opening.kept; local = λ run. refl })
      | inr (inl cut) ↦
          let good = known_good start a h parts.0 cut.0 cut.3 in
          let may = resize_of start h e.kind a cut.1 cut.0 cut.2 cut.3 parts.1 in
          subst IsShaped (sym cut.4) (record {
            stored = taken_shape cut.0 cut.1 good.kept may;
            local = λ run. let clash : true ≡ false = sym run ∙ may.stored in absurd (cc);
          })
      | inr (inr old) ↦ before parts.0 k old
    ])

-- an array of the run has few cells, each size 0 taken as 1
abbrev pub IsSmallIfLocal : ArrayInfo → Type 0
IsSmallIfLocal info = is_local info.home ≡ true → IsShape info.shape × IsChunkShape (map (max 1) info.shape)

reference_in : (info : ArrayInfo) (home : Home) (shape : List ℕ) → IsAsKept info home → MayHaveShape home shape → (is_local home ≡ true → shape ≡ info.shape)
    → (is_local home ≡ true → IsShape info.shape × IsChunkShape (map (max 1) info.shape))
    → IsReference (record { number = info.number; dtype = info.dtype; shape = shape; chunk = chunk_shape_in home info.shape; local = is_local home })
reference_in info (Zarr mount path meta) shape kept stored local small = record { shape = stored.0; chunk = kept.valid.chunks; ranks = sym stored.1; whole = λ run. absurd (cc) }
reference_in info (N5 mount path meta) shape kept stored local small = record { shape = stored.0; chunk = kept.valid.block; ranks = sym stored.1; whole = λ run. absurd (cc) }
reference_in info (Zarr3 mount path meta) shape kept stored local small = record { shape = stored.0; chunk = kept.valid.chunks; ranks = sym stored.1; whole = λ run. absurd (cc) }
reference_in info (Local start) shape kept stored local small =
    let same = local refl in
    let few = small refl in
    record {
      shape = subst IsShape (sym same) few.0;
      chunk = few.1;
      ranks = kept_rank info (Local start) kept ∙ ap length (sym same);
      whole = λ run. ap (map (max 1)) (sym same);
    }

-- the reference of an array of a legal history keeps the rules
pub known_reference : (start : Contents) (a : ℕ) (events : History) → IsLegal start events → (k : Known) → known_after events a ≡ Some k → IsSmallIfLocal k.info → IsReference (ref_of k)
known_reference start a events legal k is small =
    let shaped = known_shaped start a events legal k is in
    reference_in k.info k.info.home k.shape (known_good start a events legal k is).kept shaped.stored shaped.local small
