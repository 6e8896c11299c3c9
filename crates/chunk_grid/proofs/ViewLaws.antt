-- The conditions of values without a check, at the cells of a view inside an array.
use Rattle.std.proofs.Common.{◌≡◌, true, ℕ, ◌≤◌, ◌^◌, ◌-◌, suc, refl, List, [], ◌∷◌, arith, ℤ}
use Rattle.std.specs.List.{All, AllByRecursion, list_all}
use Rattle.std.proofs.lemmas.List.Elements.{All-from_recursion}
use Rattle.cells.proofs.Laws.{both, both_true}
use Rattle.std.proofs.lemmas.Int.{ints}
use Rattle.index_intervals.specs.Bounds.{Bounds, is_ordered, are_bounds}
use Rattle.index_transform.specs.Cells.{cells_of}
use Rattle.index_transform.specs.Transforms.{DomainAndMaps, IsTransform}
use Rattle.index_transform.specs.Values.{is_word}
use Rattle.index_transform.specs.Walks.{IsCell}
use Rattle.index_transform.specs.Shapes.{IsInShape}
use Rattle.index_transform.proofs.Laws.{AreCells, AreCells-cells_of, are_words-in_shape}
use Rattle.chunk_grid.specs.Grid.{Shapes, IsGrid}

pub ordered : (ds : List Bounds) → list_all are_bounds ds ≡ true → list_all is_ordered ds ≡ true
ordered [] e = refl
ordered (d ∷ ds) e =
    let p = both (are_bounds d) (list_all are_bounds ds) e in
    both_true (is_ordered d) (list_all is_ordered ds) (one d p.0) (ordered ds p.1)
  where
    one : (d : Bounds) → are_bounds d ≡ true → is_ordered d ≡ true
    one d e = grind (arith, ints, e)

each : (ds : List Bounds) (cells : List (List ℤ)) → AreCells ds cells → AllByRecursion (IsCell ds) cells
each ds [] h = tt
each ds (cell ∷ cells) h = (h.0, each ds cells h.1)

-- the cells of a transform's domain are cells
pub are_cells : (t : DomainAndMaps) → IsTransform t → All (IsCell t.domain.dims) (cells_of t.domain.dims)
are_cells t rules = All-from_recursion (IsCell t.domain.dims) (cells_of t.domain.dims) (each t.domain.dims (cells_of t.domain.dims) (AreCells-cells_of t.domain.dims (ordered t.domain.dims rules.bounds)))

-- a size of an array fits 63 bits
small : (shape : List ℕ) → All (λ size. size ≤ 2 ^ 62 - 2) shape → AllByRecursion (λ size. size ≤ 2 ^ 63) shape
small [] h = tt
small (n ∷ shape) h = (let l = h 0 n (omega arith) in omega (arith, l), small shape (λ k d less. h (suc k) d (omega (arith, less))))

pub are_words : (grid : Shapes) (index : List ℤ) → IsGrid grid → IsInShape grid.shape index → list_all is_word index ≡ true
are_words grid index g i = are_words-in_shape grid.shape index i (small grid.shape g.finite)
