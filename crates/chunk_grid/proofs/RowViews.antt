-- The conditions of heads and of a row of a view.
use Rattle.std.proofs.Common.{◌≡◌, Bool, true, false, None, ◌∙◌, ℕ, zero, suc, ◌*◌, ◌<◌, ◌^◌, List, [], ◌∷◌, ◌++◌, length, map, get_or, sym, ap, subst, arith, ℤ}
use Rattle.std.specs.Prelude.{replicate}
use Rattle.std.proofs.lemmas.List.{length-map}
use Rattle.std.specs.List.{All, AllByRecursion, AllZip}
use Rattle.std.proofs.lemmas.Int.{ints}
use Rattle.std.proofs.lemmas.List.Elements.{All-from_recursion, recursion_from_All, All-contains}
use Rattle.cells.specs.Places.{cell_count, IsInside}
use Rattle.cells.proofs.Laws.{c_place-lt}
use Rattle.index_intervals.specs.Bounds.{Bounds}
use Rattle.index_transform.specs.Cells.{cells_of}
use Rattle.index_transform.specs.Transforms.{DomainAndMaps}
use Rattle.index_transform.specs.Values.{value_at}
use Rattle.index_transform.specs.Walks.{IsCell, IsNonEmpty}
use Rattle.index_transform.proofs.Laws.{AreCells, AreCells-cells_of}
use Rattle.chunk_grid.specs.declared.slots.Located.{Located}
use Rattle.chunk_grid.specs.BoxSteps.{IsNarrowed}
use Rattle.chunk_grid.specs.Grid.{Shapes, IsGrid, IsInShape, numbers, chunk_index}
use Rattle.chunk_grid.specs.Rows.{point, heads_of, row_of, IsSplitView}
use Rattle.chunk_grid.specs.Runs.{run_pieces}
use Rattle.chunk_grid.specs.Slots.{chunk_counts, located, located_kept, together, products, put_all, pieces_from}
use Rattle.chunk_grid.proofs.BoxCells.{contains-cell, filled-some, ordered-filled, narrowed-filled, narrowed-cell, narrowed-itself}
use Rattle.chunk_grid.proofs.GridLaws.{length-in_shape, length-numbers, place_within-lt}
use Rattle.chunk_grid.proofs.ViewBoxes.{as-many}
use Rattle.chunk_grid.proofs.RowParts.{chunk-in_grid, length-chunk_counts}
use Rattle.chunk_grid.proofs.RowCells.{map-map, products-located}
use Rattle.chunk_grid.proofs.SlotLaws.{length-products}
use Rattle.chunk_grid.proofs.SlotPieces.{slots-pieces}

-- heads and a row lie within the dimensions
points-narrowed : (dims : List Bounds) → IsNonEmpty dims → AllZip IsNarrowed dims (map point dims)
points-narrowed [] h = tt
points-narrowed (d ∷ dims) h = (record { low = omega (arith, ints); some = omega (arith, ints); high = h.0 }, points-narrowed dims h.1)

pub heads-narrowed : (k : ℕ) (dims : List Bounds) → IsNonEmpty dims → AllZip IsNarrowed dims (heads_of k dims)
heads-narrowed zero dims h = points-narrowed dims h
heads-narrowed (suc k) [] h = tt
heads-narrowed (suc k) (d ∷ dims) h = (record { low = omega (arith, ints); some = h.0; high = omega (arith, ints) }, heads-narrowed k dims h.1)

pub row-narrowed : (k : ℕ) (dims : List Bounds) → IsNonEmpty dims → AllZip IsNarrowed dims (row_of k dims)
row-narrowed zero dims h = narrowed-itself dims h
row-narrowed (suc k) [] h = tt
row-narrowed (suc k) (d ∷ dims) h = (record { low = omega (arith, ints); some = omega (arith, ints); high = h.0 }, row-narrowed k dims h.1)

-- so their cells are cells of the view, inside the array
cells-within : (P : List ℤ → Type 0) (dims parts : List Bounds) (cells : List (List ℤ)) → AllZip IsNarrowed dims parts → AreCells parts cells → All P (cells_of dims)
    → AllByRecursion (λ cell. IsCell dims cell × P cell) cells
cells-within P dims parts [] n a h = tt
cells-within P dims parts (cell ∷ cells) n a h =
    let is = narrowed-cell dims parts cell n a.0 in
    ((is, All-contains P (cells_of dims) cell h (contains-cell dims cell is)), cells-within P dims parts cells n a.1 h)

pub narrowed-inside : (P : List ℤ → Type 0) (dims parts : List Bounds) → IsNonEmpty dims → AllZip IsNarrowed dims parts → All P (cells_of dims) → All (λ cell. IsCell dims cell × P cell) (cells_of parts)
narrowed-inside P dims parts filled n h =
    All-from_recursion (λ cell. IsCell dims cell × P cell) (cells_of parts)
    (cells-within P dims parts (cells_of parts) n (AreCells-cells_of parts (ordered-filled parts (narrowed-filled dims parts n))) h)

-- each cell's chunk is one of the grid, and its place one of a chunk
pub cells-in_grid : (t : DomainAndMaps) (grid : Shapes) (cells : List (List ℤ)) → IsGrid grid → AllByRecursion (λ cell. IsInShape grid.shape (value_at t cell)) cells
    → AllByRecursion (λ xs. IsInside (chunk_counts grid.shape grid.chunk) (chunk_index grid.chunk xs)) (map (λ cell. numbers (value_at t cell)) cells)
cells-in_grid t grid [] g h = tt
cells-in_grid t grid (cell ∷ cells) g h = (chunk-in_grid grid.shape grid.chunk (value_at t cell) g.same g.positive h.0, cells-in_grid t grid cells g h.1)

pub record IsLocated (counts : List ℕ) (c : Located) : Type 0 where
  pub number : c.number < cell_count counts
  pub place : c.place < 2 ^ 32

pub cells-located : (t : DomainAndMaps) (grid : Shapes) (cells : List (List ℤ)) → IsGrid grid → AllByRecursion (λ cell. IsInShape grid.shape (value_at t cell)) cells
    → AllByRecursion (IsLocated (chunk_counts grid.shape grid.chunk)) (map (λ cell. located (chunk_counts grid.shape grid.chunk) grid.chunk (numbers (value_at t cell))) cells)
cells-located t grid [] g h = tt
cells-located t grid (cell ∷ cells) g h = (
  record {
    number = c_place-lt (chunk_counts grid.shape grid.chunk) (chunk_index grid.chunk (numbers (value_at t cell))) (chunk-in_grid grid.shape grid.chunk (value_at t cell) g.same g.positive h.0);
    place =
        let long = length-numbers (value_at t cell) ∙ length-in_shape grid.shape (value_at t cell) h.0 ∙ sym g.same in
        omega (arith, g.small, place_within-lt grid.chunk (numbers (value_at t cell)) long g.positive);
  },
  cells-located t grid cells g h.1,
)

-- what holds of all products holds of each
first_of : {X : Type 0} (P : X → Type 0) (xs ys : List X) → AllByRecursion P (xs ++ ys) → AllByRecursion P xs
first_of P [] ys h = tt
first_of P (x ∷ xs) ys h = (h.0, first_of P xs ys h.1)

rest_of : {X : Type 0} (P : X → Type 0) (xs ys : List X) → AllByRecursion P (xs ++ ys) → AllByRecursion P ys
rest_of P [] ys h = h
rest_of P (x ∷ xs) ys h = rest_of P xs ys h.1

in_row : (P : Located → Type 0) (h : Located) (row : List Located) (j : ℕ) (d : Located) → j < length row → AllByRecursion P (map (together h) row) → P (together h (get_or row j d))
in_row P h [] j d l all = absurd (omega (arith, l))
in_row P h (c ∷ row) zero d l all = all.0
in_row P h (c ∷ row) (suc j) d l all = in_row P h row j d (omega (arith, l)) all.1

pub in_products : (P : Located → Type 0) (heads row : List Located) (i j : ℕ) (c d : Located) → i < length heads → j < length row → AllByRecursion P (products heads row) → P (together (get_or heads i c) (get_or row j d))
in_products P [] row i j c d l m all = absurd (omega (arith, l))
in_products P (h ∷ heads) row zero j c d l m all = in_row P h row j d m (first_of P (map (together h) row) (products heads row) all)
in_products P (h ∷ heads) row (suc i) j c d l m all = in_products P heads row i j c d (omega (arith, l)) m (rest_of P (map (together h) row) (products heads row) all)

-- a view's cells are the products of its heads and its row
module _ (t : DomainAndMaps) (grid : Shapes) (counts : List ℕ) (k : ℕ) (flags : List Bool) (heads row : List Located) (rules : IsGrid grid) (is : counts ≡ chunk_counts grid.shape grid.chunk)
    (split : IsSplitView k t flags) (filled : IsNonEmpty t.domain.dims) (inside : All (λ cell. IsInShape grid.shape (value_at t cell)) (cells_of t.domain.dims))
    (heads_are : heads ≡ map (located_kept false t counts grid.chunk flags) (cells_of (heads_of k t.domain.dims)))
    (row_is : row ≡ map (located_kept true t counts grid.chunk flags) (cells_of (row_of k t.domain.dims))) where
  many : length t.maps ≡ length grid.chunk
  many = as-many t grid rules (filled-some t.domain.dims filled) inside

  counts_long : length counts ≡ length t.maps
  counts_long = ap length is ∙ length-chunk_counts grid.shape grid.chunk rules.same ∙ sym rules.same ∙ sym many

  whole : products heads row ≡ map (λ cell. located counts grid.chunk (numbers (value_at t cell))) (cells_of t.domain.dims)
  whole =
      (λ i. products (heads_are i) (row_is i))
      ∙ ap (λ fs. products (map (located_kept false t counts grid.chunk fs) (cells_of (heads_of k t.domain.dims))) (map (located_kept true t counts grid.chunk fs) (cells_of (row_of k t.domain.dims)))) split.known
      ∙ products-located t counts grid.chunk k counts_long (sym many) split.split split.within

  within : AllByRecursion (λ cell. IsInShape grid.shape (value_at t cell)) (cells_of t.domain.dims)
  within = recursion_from_All (λ cell. IsInShape grid.shape (value_at t cell)) (cells_of t.domain.dims) inside

  pub products-number : (i j : ℕ) (c d : Located) → i < length heads → j < length row → IsLocated counts (together (get_or heads i c) (get_or row j d))
  products-number i j c d l m =
      in_products (IsLocated counts) heads row i j c d l m
      (subst (AllByRecursion (IsLocated counts)) (sym whole)
      (subst (λ ns. AllByRecursion (IsLocated ns) (map (λ cell. located ns grid.chunk (numbers (value_at t cell))) (cells_of t.domain.dims))) (sym is) (cells-located t grid (cells_of t.domain.dims) rules within)))

  pub products-few : length heads * length row ≡ length (cells_of t.domain.dims)
  products-few = sym (length-products heads row) ∙ ap length whole ∙ length-map (cells_of t.domain.dims) (λ cell. located counts grid.chunk (numbers (value_at t cell)))

  pub products-pieces : pieces_from counts 0 (put_all (replicate (cell_count counts) None) 0 (products heads row)) ≡ run_pieces grid.chunk (map (λ cell. numbers (value_at t cell)) (cells_of t.domain.dims))
  products-pieces =
      ap (λ ps. pieces_from counts 0 (put_all (replicate (cell_count counts) None) 0 ps)) (whole ∙ sym (map-map (located counts grid.chunk) (λ cell. numbers (value_at t cell)) (cells_of t.domain.dims)))
      ∙ slots-pieces counts grid.chunk (map (λ cell. numbers (value_at t cell)) (cells_of t.domain.dims))
      (subst (λ ns. AllByRecursion (λ xs. IsInside ns (chunk_index grid.chunk xs)) (map (λ cell. numbers (value_at t cell)) (cells_of t.domain.dims))) (sym is) (cells-in_grid t grid (cells_of t.domain.dims) rules within))
