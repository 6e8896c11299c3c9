-- How boxes are split along one output more.
use Rattle.std.specs.Prelude.{◌≡◌, ℕ, ◌/◌, ◌<◌, ◌==◌, ℤ, pos, ◌+ℤ◌, ◌-ℤ◌, ◌*ℤ◌, ◌≤ℤ◌, ◌<ℤ◌, ◌^◌, int_lt, unsigned_abs, Bool, IsTrue, List, [], ◌∷◌, ◌++◌, map, filter, slice_set, if◌then◌else◌}
use Rattle.std.specs.List.{AllByRecursion, AllZip, Contains, list_all}
use Rattle.std.specs.Str.{bytes_eq}
use Rattle.std.specs.Ordering.{is_lt, nat_cmp}
use Rattle.std.specs.Cmp.Lexicographic.{slice_cmp}
use Rattle.index_intervals.specs.Bounds.{Bounds}
use Rattle.index_transform.specs.declared.map.OutMap.{OutMap}
use Rattle.index_transform.specs.Cells.{is_finite, cells_of, members_of}
use Rattle.index_transform.specs.Maps.{is_map}
use Rattle.index_transform.specs.Values.{map_value}
use Rattle.index_transform.specs.Walks.{IsCell, IsNonEmpty}
use Rattle.chunk_grid.specs.declared.boxes.Boxed.{Boxed}
use Rattle.chunk_grid.specs.declared.boxes.Segment.{Segment}

-- each element stands so to each later one
abbrev pub IsRisingBy : {X : Type 0} → (X → X → Type 0) → List X → Type 0
IsRisingBy R [] = Unit {0}
IsRisingBy R (x ∷ xs) = AllByRecursion (R x) xs × IsRisingBy R xs

-- the chunk of the first comes before that of the second
abbrev pub IsBefore : Boxed → Boxed → Type 0
IsBefore a b = IsTrue (is_lt (slice_cmp nat_cmp a.chunk b.chunk))

-- some of the indices of a dimension, and at least one
pub record IsNarrowed (dim part : Bounds) : Type 0 where
  pub low : dim.lo ≤ℤ part.lo
  pub some : part.lo ≤ℤ part.hi
  pub high : part.hi ≤ℤ dim.hi

-- the boxes have the cells by their keys
pub record IsParted (key : List ℤ → List ℕ) (cells : List (List ℤ)) (boxes : List Boxed) : Type 0 where
  pub rising : IsRisingBy IsBefore boxes
  pub each : AllByRecursion (λ b. cells_of b.dims ≡ filter (λ cell. bytes_eq (key cell) b.chunk) cells) boxes
  pub all : (cell : List ℤ) → Contains cells cell → Contains (map (λ b. b.chunk) boxes) (key cell)

-- the cells of a box with one number
abbrev pub IsPartOf : (List ℤ → ℕ) → Boxed → Boxed → Type 0
IsPartOf number box part =
    (c : ℕ) × (part.chunk ≡ box.chunk ++ c ∷ []) × (cells_of part.dims ≡ filter (λ cell. number cell == c) (cells_of box.dims)) × AllZip IsNarrowed box.dims part.dims

-- the parts have the cells of a box by one number more
pub record IsSplit (number : List ℤ → ℕ) (box : Boxed) (parts : List Boxed) : Type 0 where
  pub rising : IsRisingBy IsBefore parts
  pub each : AllByRecursion (IsPartOf number box) parts
  pub all : (cell : List ℤ) → Contains (cells_of box.dims) cell → Contains (map (λ b. b.chunk) parts) (box.chunk ++ number cell ∷ [])

-- the parts of one box after another
abbrev pub AreSplit : (List ℤ → ℕ) → List Boxed → List Boxed → Type 0
AreSplit number [] out = out ≡ []
AreSplit number (box ∷ boxes) out =
    (parts : List Boxed) × (rest : List Boxed) × (out ≡ parts ++ rest) × IsSplit number box parts × AreSplit number boxes rest

-- the segments have the indices of a dimension by a number
pub record IsCut (number : ℤ → ℕ) (dim : Bounds) (segments : List Segment) : Type 0 where
  pub rising : IsRisingBy (λ a b. a.number < b.number) segments
  pub each : AllByRecursion (λ s. (members_of s.dim ≡ filter (λ x. number x == s.number) (members_of dim)) × IsNarrowed dim s.dim) segments
  pub all : (x : ℤ) → dim.lo ≤ℤ x → x ≤ℤ dim.hi → Contains (map (λ s. s.number) segments) (number x)

-- a number along a dimension of an array
pub record IsPlaceAlong (x : ℤ) : Type 0 where
  pub from_zero : pos 0 ≤ℤ x
  pub below : x <ℤ pos (2 ^ 62)

-- whether a number with this stride is least at the lower end
abbrev pub goes_up : ℤ → Bool
goes_up stride = int_lt (pos 0) stride

-- the number of a chunk along an output that goes with an index
abbrev pub strided_number : ℤ → ℤ → ℕ → ℤ → ℕ
strided_number offset stride size x = unsigned_abs (offset +ℤ stride *ℤ x) / size

-- the index so many steps from the lower end of a dimension, or from the upper one
abbrev pub index_after : Bounds → Bool → ℕ → ℤ
index_after dim up steps = if up then dim.lo +ℤ pos steps else dim.hi -ℤ pos steps

-- so many indices from there on
abbrev pub part_after : Bounds → Bool → ℕ → ℕ → Bounds
part_after dim up done len =
    if up then record dim { lo = dim.lo +ℤ pos done; hi = (dim.lo +ℤ pos done) +ℤ (pos len -ℤ pos 1) }
    else record dim { lo = (dim.hi -ℤ pos done) -ℤ (pos len -ℤ pos 1); hi = dim.hi -ℤ pos done }

-- the cells of a box with an index in a segment
abbrev pub narrowed_box : Boxed → ℕ → Segment → Boxed
narrowed_box box dim segment = record { chunk = box.chunk ++ segment.number ∷ []; dims = slice_set box.dims dim segment.dim }

-- the output is a place at each of the cells, which are finitely many and at least one
pub record CanSplit (m : OutMap) (box : Boxed) : Type 0 where
  pub finite : IsTrue (list_all is_finite box.dims)
  pub filled : IsNonEmpty box.dims
  pub within : IsTrue (is_map box.dims m)
  pub values : (cell : List ℤ) → IsCell box.dims cell → IsPlaceAlong (map_value [] cell m)
