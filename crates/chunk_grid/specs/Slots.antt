-- Cells by the number of their chunk among all chunks of a grid, and runs in a slot for each number.
use Rattle.std.specs.Prelude.{ℕ, ◌+◌, ℤ, Bool, List, [], ◌∷◌, Option, Some, None, map, IfSome, slice_index_or, slice_set}
use Rattle.std.specs.List.{flat_map}
use Rattle.std.specs.Int.{div_ceil}
use Rattle.cells.specs.Places.{c_place, c_index}
use Rattle.index_transform.specs.Transforms.{DomainAndMaps}
use Rattle.index_transform.specs.Values.{value_at}
use Rattle.chunk_grid.specs.Grid.{chunk_index, numbers, place_within}
use Rattle.chunk_grid.specs.Rows.{all_kept}
use Rattle.strided_runs.specs.Growing.{Grown, runs_of_growing}
use Rattle.chunk_grid.specs.Cuts.{with_pair, IsUpTo}
use Rattle.chunk_grid.specs.declared.piece.RunPiece.{RunPiece}
use Rattle.chunk_grid.specs.declared.slots.Located.{Located}

-- how many chunks there are along each dimension
abbrev pub chunk_counts : List ℕ → List ℕ → List ℕ
chunk_counts (size ∷ shape) (n ∷ chunk) = div_ceil size n ∷ chunk_counts shape chunk
chunk_counts shape chunk = []

-- the number of an index vector's chunk among all chunks, in C order, and the place in the chunk
abbrev pub located : List ℕ → List ℕ → List ℕ → Located
located counts chunk index = record { number = c_place counts (chunk_index chunk index); place = place_within chunk index }

-- the same of a view's cell by the outputs whose flag is wanted
abbrev pub located_kept : Bool → DomainAndMaps → List ℕ → List ℕ → List Bool → List ℤ → Located
located_kept want t counts chunk flags cell = located counts chunk (numbers (all_kept want flags (value_at t cell)))

-- the sums of two, each of which has the part of some outputs
abbrev pub together : Located → Located → Located
together a b = record { number = a.number + b.number; place = a.place + b.place }

-- each of some with each of a row
abbrev pub products : List Located → List Located → List Located
products heads row = flat_map (λ head. map (together head) row) heads

-- the runs in the slot of a number
abbrev pub slot_at : List (Option Grown) → ℕ → Option Grown
slot_at slots n = slice_index_or slots n None

-- no run reaches further than this place of the view
abbrev pub AreUpTo : ℕ → List (Option Grown) → Type 0
AreUpTo view slots = (n : ℕ) → IfSome (slot_at slots n) (IsUpTo view)

-- the slots with a pair more
abbrev pub put_at : List (Option Grown) → ℕ → Located → List (Option Grown)
put_at slots view cell = slice_set slots cell.number (Some (with_pair (record { view = view; chunk = cell.place }) (slot_at slots cell.number)))

-- the slots with the pairs of some cells more, which follow one another in the view
abbrev pub put_all : List (Option Grown) → ℕ → List Located → List (Option Grown)
put_all slots view [] = slots
put_all slots view (cell ∷ cells) = put_all (put_at slots view cell) (view + 1) cells

-- the pieces of the slots from a number on
abbrev pub pieces_from : List ℕ → ℕ → List (Option Grown) → List RunPiece
pieces_from counts n [] = []
pieces_from counts n (None ∷ slots) = pieces_from counts (n + 1) slots
pieces_from counts n (Some g ∷ slots) = record { chunk = c_index counts n; runs = runs_of_growing g } ∷ pieces_from counts (n + 1) slots
