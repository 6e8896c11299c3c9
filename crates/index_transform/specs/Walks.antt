-- A walk through the cells of a domain.
use Rattle.std.specs.Prelude.{◌≡◌, ℕ, ℤ, pos, ◌+ℤ◌, ◌-ℤ◌, ◌≤ℤ◌, int_lt, unsigned_abs, Bool, false, if◌then◌else◌, List, [], ◌∷◌, ◌++◌, length, map, Option, Some, None}
use Rattle.std.specs.List.{flat_map}
use Rattle.index_intervals.specs.Bounds.{Bounds}
use Rattle.index_transform.specs.Cells.{counting, cells_of}

-- what a contract sees of a walk: its rank and the cells that are still to come
pub record CellsLeft : Type 0 where
  pub rank : ℕ
  pub cells : List (List ℤ)

-- the cells from this one on, in C order
abbrev pub cells_from : List Bounds → List ℤ → List (List ℤ)
cells_from [] index = [] ∷ []
cells_from (dim ∷ dims) [] = []
cells_from (dim ∷ dims) (x ∷ index) =
    map (λ cell. x ∷ cell) (cells_from dims index)
    ++ flat_map (λ y. map (λ cell. y ∷ cell) (cells_of dims)) (counting (x +ℤ pos 1) (unsigned_abs (dim.hi -ℤ x)))

-- the lower bounds
abbrev pub lows : List Bounds → List ℤ
lows dims = map (λ dim. dim.lo) dims

-- the index vector is a cell of finite bounds
abbrev pub IsCell : List Bounds → List ℤ → Type 0
IsCell [] [] = Unit {0}
IsCell [] (x ∷ index) = ⊥
IsCell (dim ∷ dims) [] = ⊥
IsCell (dim ∷ dims) (x ∷ index) = (dim.lo ≤ℤ x) × (x ≤ℤ dim.hi) × IsCell dims index

-- no dimension is empty
abbrev pub IsNonEmpty : List Bounds → Type 0
IsNonEmpty [] = Unit {0}
IsNonEmpty (dim ∷ dims) = (dim.lo ≤ℤ dim.hi) × IsNonEmpty dims

-- the cell after this one: the last index that can rise does, and those behind it begin again
abbrev pub after_some : ℤ → Bounds → List Bounds → Option (List ℤ) → Option (List ℤ)
after_some x dim dims (Some index) = Some (x ∷ index)
after_some x dim dims None = if int_lt x dim.hi then Some ((x +ℤ pos 1) ∷ lows dims) else None

abbrev pub next_cell : List Bounds → List ℤ → Option (List ℤ)
next_cell [] index = None
next_cell (dim ∷ dims) [] = None
next_cell (dim ∷ dims) (x ∷ index) = after_some x dim dims (next_cell dims index)

-- the cells left of a walk that stands at a cell, or has ended
abbrev pub left_of : Bool → List Bounds → List ℤ → List (List ℤ)
left_of ended dims index = if ended then [] else cells_from dims index

-- a walk stands at a cell until it has ended
pub record IsWalk (ended : Bool) (dims : List Bounds) (index : List ℤ) : Type 0 where
  pub same : length index ≡ length dims
  pub at_cell : ended ≡ false → IsCell dims index
