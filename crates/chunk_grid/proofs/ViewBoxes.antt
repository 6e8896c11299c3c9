-- The boxes of a view can be cut.
use Rattle.std.proofs.Common.{◌≡◌, ◌≢◌, ◌∙◌, ℕ, zero, suc, ◌<◌, ◌≤◌, true, ℤ, List, [], ◌∷◌, length, map, filter, get_or, refl, sym, ap, subst, arith}
use Rattle.std.specs.List.{All, AllZip, AllByRecursion, list_all}
use Rattle.std.specs.Str.{bytes_eq}
use Rattle.std.proofs.lemmas.List.Elements.{recursion_from_All}
use Rattle.cells.specs.Places.{cell_count}
use Rattle.index_intervals.specs.Bounds.{Bounds}
use Rattle.index_transform.specs.declared.map.OutMap.{OutMap}
use Rattle.index_transform.specs.Cells.{cells_of}
use Rattle.index_transform.specs.Maps.{size_of}
use Rattle.index_transform.specs.Transforms.{DomainAndMaps}
use Rattle.index_transform.specs.Values.{map_value, value_at}
use Rattle.index_transform.specs.Walks.{lows}
use Rattle.index_transform.proofs.Laws.{length-cells_of}
use Rattle.chunk_grid.specs.Grid.{Shapes, IsGrid, IsInShape, numbers}
use Rattle.chunk_grid.specs.Boxes.{is_regular, AreBoxes, IsBoxIn, IsOfBox, IsCutBox, key_along, piece_of_box}
use Rattle.chunk_grid.specs.Runs.{run_pieces}
use Rattle.chunk_grid.specs.BoxSteps.{IsNarrowed}
use Rattle.chunk_grid.specs.declared.boxes.Boxed.{Boxed}
use Rattle.chunk_grid.proofs.GridLaws.{length-in_shape}
use Rattle.chunk_grid.proofs.LoopLaws.{map-alike}
use Rattle.chunk_grid.proofs.BoxLoops.{first-cell}
use Rattle.chunk_grid.proofs.BoxPieces.{all-at-cell, cell-in-box, cells-of-box, first-of-box, box-pieces, regular-value}

narrowed-in : (dims box : List Bounds) → AllZip IsNarrowed dims box → IsBoxIn dims box
narrowed-in [] [] h = tt
narrowed-in [] (b ∷ box) h = absurd h
narrowed-in (dim ∷ dims) [] h = absurd h
narrowed-in (dim ∷ dims) (b ∷ box) h = (h.0.low, h.0.some, h.0.high, narrowed-in dims box h.1)

-- what holds of the values at cells, of a view without index arrays
values-all : (shape : List ℕ) (dims : List Bounds) (maps : List OutMap) (cells : List (List ℤ)) → list_all is_regular maps ≡ true
    → AllByRecursion (λ cell. IsInShape shape (map (map_value dims cell) maps)) cells → AllByRecursion (λ cell. IsInShape shape (map (map_value [] cell) maps)) cells
values-all shape dims maps [] r a = tt
values-all shape dims maps (cell ∷ cells) r a =
    (subst (IsInShape shape) (regular-value dims maps cell r) a.0, values-all shape dims maps cells r a.1)

-- each box can be cut
pub boxes-cut : (t : DomainAndMaps) (shape chunk : List ℕ) (boxes : List Boxed) → list_all is_regular t.maps ≡ true → length t.maps ≡ length chunk
    → All (λ cell. IsInShape shape (value_at t cell)) (cells_of t.domain.dims) → AreBoxes (key_along t.maps chunk) t.domain.dims boxes
    → All (λ b. AllZip IsNarrowed t.domain.dims b.dims) boxes → All (IsCutBox t.domain.dims t.maps shape chunk) boxes
boxes-cut t shape chunk boxes r l inside h narrow = λ k d less. one (get_or boxes k d) (h.cells k (get_or boxes k d) less (same boxes k d less)) (narrow k d less)
  where
    same : (xs : List Boxed) (k : ℕ) (d : Boxed) → k < length xs → get_or xs k (get_or xs k d) ≡ get_or xs k d
    same [] k d h = absurd (omega (arith, h))
    same (x ∷ xs) zero d h = refl
    same (x ∷ xs) (suc k) d h = same xs k d (omega (arith, h))

    values : AllByRecursion (λ cell. IsInShape shape (map (map_value [] cell) t.maps)) (cells_of t.domain.dims)
    values = values-all shape t.domain.dims t.maps (cells_of t.domain.dims) r (recursion_from_All (λ cell. IsInShape shape (value_at t cell)) (cells_of t.domain.dims) inside)

    one : (b : Boxed) → cells_of b.dims ≡ filter (λ cell. bytes_eq (key_along t.maps chunk cell) b.chunk) (cells_of t.domain.dims) → AllZip IsNarrowed t.domain.dims b.dims
        → IsCutBox t.domain.dims t.maps shape chunk b
    one b e z =
        let box = narrowed-in t.domain.dims b.dims z in
        let cells = cells-of-box t.maps shape chunk b.chunk t.domain.dims b.dims l box e values in
        let first = first-of-box t.maps chunk b.chunk t.domain.dims b.dims box cells in
        record {
          inside = box;
          first = all-at-cell (λ cell. IsInShape shape (map (map_value [] cell) t.maps)) t.domain.dims (lows b.dims) values (cell-in-box t.domain.dims b.dims (lows b.dims) box (first-cell t.domain.dims b.dims box));
          cells = subst (λ (key : List ℕ). AllByRecursion (IsOfBox t.maps chunk key b.dims) (cells_of b.dims)) (sym first.of_chunk) cells;
        }

-- and the pieces are those of the view
pub pieces-cut : (t : DomainAndMaps) (chunk : List ℕ) (boxes : List Boxed) → list_all is_regular t.maps ≡ true → length t.maps ≡ length chunk → AreBoxes (key_along t.maps chunk) t.domain.dims boxes
    → map (piece_of_box t.domain.dims t.maps chunk) boxes ≡ run_pieces chunk (map (λ cell. numbers (value_at t cell)) (cells_of t.domain.dims))
pieces-cut t chunk boxes r l h =
    sym (box-pieces t.maps chunk t.domain.dims boxes l h)
    ∙ ap (run_pieces chunk) (map-alike (λ cell. numbers (map (map_value [] cell) t.maps)) (λ cell. numbers (value_at t cell)) (λ cell. ap numbers (sym (regular-value t.domain.dims t.maps cell r))) (cells_of t.domain.dims))

-- there are as many cells as their sizes say
pub cells-count : (dims : List Bounds) → length (cells_of dims) ≤ 4194304 → cell_count (map size_of dims) ≤ 4194304
cells-count dims h = let l = length-cells_of dims in omega (arith, h, l)

pub cells-some : (dims : List Bounds) → cells_of dims ≢ [] → 0 < cell_count (map size_of dims)
cells-some dims n = let l = length-cells_of dims in let s = told (cells_of dims) n in omega (arith, l, s)
  where
    told : (cells : List (List ℤ)) → cells ≢ [] → 0 < length cells
    told [] m = absurd (m refl)
    told (cell ∷ cells) m = omega arith

-- a list with an element has a first one
first-of : (cells : List (List ℤ)) → cells ≢ [] → (k : ℕ) × (k < length cells)
first-of [] n = absurd (n refl)
first-of (cell ∷ cells) n = (0, omega arith)

length-mapped : {X Y : Type 0} (f : X → Y) (xs : List X) → length (map f xs) ≡ length xs
length-mapped f [] = refl
length-mapped f (x ∷ xs) = ap suc (length-mapped f xs)

-- a view of an array has an output for each size of a chunk
pub as-many : (t : DomainAndMaps) (grid : Shapes) → IsGrid grid → cells_of t.domain.dims ≢ [] → All (λ cell. IsInShape grid.shape (value_at t cell)) (cells_of t.domain.dims)
    → length t.maps ≡ length grid.chunk
as-many t grid g some inside =
    let k = first-of (cells_of t.domain.dims) some in
    let cell = get_or (cells_of t.domain.dims) k.0 [] in
    sym (length-mapped (map_value t.domain.dims cell) t.maps) ∙ length-in_shape grid.shape (value_at t cell) (inside k.0 [] k.1) ∙ sym g.same
