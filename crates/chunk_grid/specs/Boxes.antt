-- A view's cells parted into boxes, each of which lies in one chunk.
use Rattle.std.specs.Prelude.{◌≡◌, ◌≢◌, ℕ, zero, suc, ◌/◌, ◌^◌, ◌<◌, ◌==◌, ℤ, pos, ◌+ℤ◌, ◌-ℤ◌, ◌*ℤ◌, ◌≤ℤ◌, unsigned_abs, IsTrue, Bool, true, false, not, List, [], ◌∷◌, length, map, filter, replicate, slice_index_or}
use Rattle.std.specs.List.{AllByRecursion}
use Rattle.std.specs.Str.{bytes_eq}
use Rattle.std.specs.Ordering.{is_lt, nat_cmp}
use Rattle.std.specs.Cmp.Lexicographic.{slice_cmp}
use Rattle.cells.specs.Places.{cell_count, c_place}
use Rattle.index_intervals.specs.Bounds.{Bounds}
use Rattle.index_transform.specs.declared.map.OutMap.{OutMap}
use Rattle.index_transform.specs.declared.map.OutMap.TheVariants.{Constant, Strided, Indexed}
use Rattle.index_transform.specs.Cells.{cells_of}
use Rattle.index_transform.specs.Maps.{size_of}
use Rattle.index_transform.specs.Values.{map_value}
use Rattle.index_transform.specs.Walks.{IsCell, lows}
use Rattle.chunk_grid.specs.Grid.{AreFromZero, IsInShape, numbers, chunk_index, place_within}
use Rattle.chunk_grid.specs.Runs.{runs_of_pairs}
use Rattle.chunk_grid.specs.declared.piece.RunPiece.{RunPiece}
use Rattle.chunk_grid.specs.Pieces.{Pair}
use Rattle.chunk_grid.specs.declared.boxes.Boxed.{Boxed}
use Rattle.strided_runs.specs.declared.lines.Loop.{Loop}
pub use Rattle.strided_runs.specs.Loops.{looped}

-- the map has no index array
abbrev pub is_regular : OutMap → Bool
is_regular (Constant offset) = true
is_regular (Strided offset stride dim) = true
is_regular (Indexed offset stride sizes entries) = false

-- the number of the chunk along one output, at a cell
abbrev pub chunk_along : OutMap → ℕ → List ℤ → ℕ
chunk_along m size cell = unsigned_abs (map_value [] cell m) / size

-- the chunk's numbers along some outputs
abbrev pub key_along : List OutMap → List ℕ → List ℤ → List ℕ
key_along [] chunk cell = []
key_along (m ∷ maps) [] cell = []
key_along (m ∷ maps) (size ∷ chunk) cell = chunk_along m size cell ∷ key_along maps chunk cell

-- chunk indices rise in lexical order
abbrev pub AreRising : List (List ℕ) → Type 0
AreRising keys = (i j : ℕ) → i < j → j < length keys → IsTrue (is_lt (slice_cmp nat_cmp (slice_index_or keys i []) (slice_index_or keys j [])))

-- the boxes have the cells of the dimensions by their keys: each box those of its key, in their order, and at least one
pub record AreBoxes (key : List ℤ → List ℕ) (dims : List Bounds) (boxes : List Boxed) : Type 0 where
  pub rising : AreRising (map (λ box. box.chunk) boxes)
  pub cells : (i : ℕ) (box : Boxed) → i < length boxes → slice_index_or boxes i box ≡ box → cells_of box.dims ≡ filter (λ cell. bytes_eq (key cell) box.chunk) (cells_of dims)
  pub some : (i : ℕ) (box : Boxed) → i < length boxes → slice_index_or boxes i box ≡ box → cells_of box.dims ≢ []
  pub all : (k : ℕ) (cell : List ℤ) → k < length (cells_of dims) → slice_index_or (cells_of dims) k cell ≡ cell
      → (i : ℕ) × (i < length boxes) × ((box : Boxed) → (slice_index_or boxes i box).chunk ≡ key cell)

-- each interval of the box lies in that of the dimension, and isn't empty
abbrev pub IsBoxIn : List Bounds → List Bounds → Type 0
IsBoxIn [] [] = Unit {0}
IsBoxIn [] (b ∷ box) = ⊥
IsBoxIn (dim ∷ dims) [] = ⊥
IsBoxIn (dim ∷ dims) (b ∷ box) = (dim.lo ≤ℤ b.lo) × (b.lo ≤ℤ b.hi) × (b.hi ≤ℤ dim.hi) × IsBoxIn dims box

-- how far a cell lies from the lower bounds
abbrev pub from_lows : List Bounds → List ℤ → List ℕ
from_lows [] cell = []
from_lows (dim ∷ dims) [] = []
from_lows (dim ∷ dims) (x ∷ cell) = unsigned_abs (x -ℤ dim.lo) ∷ from_lows dims cell

-- the place of a cell among those of the dimensions, in C order
abbrev pub cell_place : List Bounds → List ℤ → ℕ
cell_place dims cell = c_place (map size_of dims) (from_lows dims cell)

-- Places as nested loops.

-- how far the view's place goes with an index along each dimension
abbrev pub view_steps : List Bounds → List ℕ
view_steps [] = []
view_steps (dim ∷ dims) = cell_count (map size_of dims) ∷ view_steps dims

-- the same with so much more along one dimension
abbrev pub added_along : ℕ → ℤ → List ℤ → List ℤ
added_along dim by [] = []
added_along zero by (x ∷ xs) = (x +ℤ by) ∷ xs
added_along (suc dim) by (x ∷ xs) = x ∷ added_along dim by xs

abbrev pub added_by : OutMap → ℕ → List ℤ → List ℤ
added_by (Constant offset) width steps = steps
added_by (Strided offset stride dim) width steps = added_along dim (stride *ℤ pos width) steps
added_by (Indexed offset stride sizes entries) width steps = steps

-- how far the chunk's place goes with an index along each of so many dimensions, inside one chunk
abbrev pub chunk_steps : ℕ → List OutMap → List ℕ → List ℤ
chunk_steps rank [] chunk = replicate rank (pos 0)
chunk_steps rank (m ∷ maps) [] = replicate rank (pos 0)
chunk_steps rank (m ∷ maps) (size ∷ chunk) = added_by m (cell_count chunk) (chunk_steps rank maps chunk)

-- the loops over a box of a view
abbrev pub loops_of : List Bounds → List ℕ → List ℤ → List Loop
loops_of [] views chunks = []
loops_of (dim ∷ dims) [] chunks = []
loops_of (dim ∷ dims) (v ∷ views) [] = []
loops_of (dim ∷ dims) (v ∷ views) (c ∷ chunks) = record { times = size_of dim; view_step = v; chunk_step = c } ∷ loops_of dims views chunks

-- the loop runs more than once
abbrev pub runs_more_than_once : Loop → Bool
runs_more_than_once loop = not (loop.times == 1)

-- where it does its step in the chunk is that from one place to another
abbrev pub IsSmallStep : Loop → Type 0
IsSmallStep loop = loop.times ≢ 1 → unsigned_abs loop.chunk_step < 2 ^ 32

-- the pair of a cell of a view without index arrays
abbrev pub pair_at_cell : List Bounds → List OutMap → List ℕ → List ℤ → Pair
pair_at_cell dims maps chunk cell = record { view = cell_place dims cell; chunk = place_within chunk (numbers (map (map_value [] cell) maps)) }

-- a cell of a box that lies in one chunk
pub record IsOfBox (maps : List OutMap) (chunk key : List ℕ) (box : List Bounds) (cell : List ℤ) : Type 0 where
  pub between : IsCell box cell
  pub from_zero : AreFromZero (map (map_value [] cell) maps)
  pub of_chunk : chunk_index chunk (numbers (map (map_value [] cell) maps)) ≡ key

-- the piece of a box
abbrev pub piece_of_box : List Bounds → List OutMap → List ℕ → Boxed → RunPiece
piece_of_box dims maps chunk box = record { chunk = box.chunk; runs = runs_of_pairs (map (pair_at_cell dims maps chunk) (cells_of box.dims)) }

-- a box of a view of an array: its cells lie in the array, and in one chunk
pub record IsCutBox (dims : List Bounds) (maps : List OutMap) (shape chunk : List ℕ) (box : Boxed) : Type 0 where
  pub inside : IsBoxIn dims box.dims
  pub first : IsInShape shape (map (map_value [] (lows box.dims)) maps)
  pub cells : AllByRecursion (IsOfBox maps chunk (chunk_index chunk (numbers (map (map_value [] (lows box.dims)) maps))) box.dims) (cells_of box.dims)
