-- The loops over a box of a view meet what its runs are cut by.
use Rattle.std.proofs.Common.{◌≡◌, ◌∙◌, ℕ, suc, ◌+◌, ◌^◌, ◌<◌, ◌≤◌, true, ℤ, pos, ◌+ℤ◌, ◌<ℤ◌, unsigned_abs, List, [], ◌∷◌, length, map, refl, sym, ap, arith}
use Rattle.std.specs.List.{All, AllByRecursion, list_all}
use Rattle.std.proofs.lemmas.Int.{ints}
use Rattle.std.proofs.lemmas.Bool.Decides.{nat_tests}
use Rattle.cells.specs.Places.{cell_count}
use Rattle.index_intervals.specs.Bounds.{Bounds}
use Rattle.index_transform.specs.declared.map.OutMap.{OutMap}
use Rattle.index_transform.specs.declared.map.OutMap.TheVariants.{Constant, Strided, Indexed}
use Rattle.index_transform.specs.Cells.{cells_of}
use Rattle.index_transform.specs.Maps.{size_of, is_map}
use Rattle.index_transform.specs.Values.{map_value}
use Rattle.index_transform.specs.Walks.{IsCell, lows}
use Rattle.chunk_grid.specs.Grid.{IsGrid, Shapes, IsInShape, numbers, chunk_index, place_within}
use Rattle.chunk_grid.specs.Boxes.{is_regular, IsBoxIn, IsOfBox, from_lows, cell_place, view_steps, chunk_steps, looped, loops_of, pair_at_cell, IsSmallStep}
use Rattle.strided_runs.specs.Loops.{IsPlace, AllRun, view_reach, ViewsRise, StayPlaces}
use Rattle.strided_runs.specs.declared.lines.Loop.{Loop}
use Rattle.chunk_grid.proofs.GridLaws.{place_within-lt, length-in_shape}
use Rattle.chunk_grid.proofs.LoopLaws.{at_chunk}
use Rattle.chunk_grid.proofs.AffineLaws.{EachGoes, ArePositive, length-chunk_steps}
use Rattle.chunk_grid.proofs.BoxPairs.{place-of-cell, box-looped}
use Rattle.chunk_grid.proofs.BoxLoops.{above-box, box-runs, box-reach, box-rises, box-stays}
use Rattle.chunk_grid.proofs.BoxPieces.{all-at-cell, first-of-box}
use Rattle.chunk_grid.proofs.KeptLaws.{kept, looped-kept, run-kept, reach-kept, rise-kept, stay-kept, steps-small}
use Rattle.chunk_grid.proofs.StepLaws.{length-view_steps, length-box}
use Rattle.cells.proofs.Laws.{both}

-- each map goes from the dimensions, without an index array
pub each-goes : (dims : List Bounds) (maps : List OutMap) → list_all is_regular maps ≡ true → list_all (is_map dims) maps ≡ true → EachGoes (length dims) maps
each-goes dims [] r m = tt
each-goes dims (Constant offset ∷ maps) r m = (tt, each-goes dims maps r m)
each-goes dims (Strided offset stride dim ∷ maps) r m =
    let p = both (is_map dims (Strided offset stride dim)) (list_all (is_map dims) maps) m in
    (grind (arith, nat_tests, p.0), each-goes dims maps r p.1)
each-goes dims (Indexed offset stride sizes entries ∷ maps) r m = cc

pub positive : (chunk : List ℕ) → All (λ n. 0 < n) chunk → ArePositive chunk
positive [] h = tt
positive (n ∷ chunk) h = (h 0 0 (omega arith), positive chunk (λ k d l. h (suc k) d (omega (arith, l))))

length-mapped : {X Y : Type 0} (f : X → Y) (xs : List X) → length (map f xs) ≡ length xs
length-mapped f [] = refl
length-mapped f (x ∷ xs) = ap suc (length-mapped f xs)

-- what is known of a view, its grid and one of its boxes
pub record IsViewBox (dims : List Bounds) (maps : List OutMap) (chunk : List ℕ) (box : List Bounds) : Type 0 where
  pub goes : EachGoes (length dims) maps
  pub sizes : All (λ n. 0 < n) chunk
  pub small : cell_count chunk ≤ 2 ^ 24
  pub same : length maps ≡ length chunk
  pub few : cell_count (map size_of dims) ≤ 4194304
  pub inside : IsBoxIn dims box
  pub cells : AllByRecursion (IsOfBox maps chunk (chunk_index chunk (numbers (map (map_value [] (lows box)) maps))) box) (cells_of box)

pub view-box : (dims : List Bounds) (maps : List OutMap) (grid : Shapes) (box : List Bounds) → list_all is_regular maps ≡ true → list_all (is_map dims) maps ≡ true → IsGrid grid
    → cell_count (map size_of dims) ≤ 4194304 → IsBoxIn dims box → IsInShape grid.shape (map (map_value [] (lows box)) maps)
    → AllByRecursion (IsOfBox maps grid.chunk (chunk_index grid.chunk (numbers (map (map_value [] (lows box)) maps))) box) (cells_of box) → IsViewBox dims maps grid.chunk box
view-box dims maps grid box regular fit g few inside first cells = record {
  goes = each-goes dims maps regular fit;
  sizes = g.positive;
  small = g.small;
  same = sym (length-mapped (map_value [] (lows box)) maps) ∙ length-in_shape grid.shape (map (map_value [] (lows box)) maps) first ∙ sym g.same;
  few = few;
  inside = inside;
  cells = cells;
}

-- the loops over the box
abbrev pub box_loops : List Bounds → List OutMap → List ℕ → List Bounds → List Loop
box_loops dims maps chunk box = loops_of box (view_steps dims) (chunk_steps (length dims) maps chunk)

abbrev pub first_chunk : List OutMap → List ℕ → List Bounds → ℕ
first_chunk maps chunk box = place_within chunk (numbers (map (map_value [] (lows box)) maps))

module _ (dims : List Bounds) (maps : List OutMap) (chunk : List ℕ) (box : List Bounds) (h : IsViewBox dims maps chunk box) where
  rank : length box ≡ length dims
  rank = length-box dims box h.inside

  goes : EachGoes (length box) maps
  goes = (rw (← rank) at h.goes)

  first : IsOfBox maps chunk (chunk_index chunk (numbers (map (map_value [] (lows box)) maps))) box (lows box)
  first = first-of-box maps chunk (chunk_index chunk (numbers (map (map_value [] (lows box)) maps))) dims box h.inside h.cells

  steps : chunk_steps (length box) maps chunk ≡ chunk_steps (length dims) maps chunk
  steps = ap (λ n. chunk_steps n maps chunk) rank

  pub views : length (view_steps dims) ≡ length box
  views = length-view_steps dims ∙ sym rank

  pub chunks : length (chunk_steps (length dims) maps chunk) ≡ length box
  chunks = length-chunk_steps (length dims) maps chunk ∙ sym rank

  runs : AllRun (box_loops dims maps chunk box)
  runs = box-runs dims box (view_steps dims) (chunk_steps (length dims) maps chunk) h.inside

  place-is : (cell : List ℤ) → IsCell box cell → IsPlace (pos (first_chunk maps chunk box) +ℤ at_chunk (chunk_steps (length dims) maps chunk) (from_lows box cell))
  place-is cell c =
      let of_box = all-at-cell (IsOfBox maps chunk (chunk_index chunk (numbers (map (map_value [] (lows box)) maps))) box) box cell h.cells c in
      let p = place-of-cell box maps chunk (chunk_index chunk (numbers (map (map_value [] (lows box)) maps))) cell goes (positive chunk h.sizes) h.same first of_box
      ∙ ap (λ (cs : List ℤ). pos (first_chunk maps chunk box) +ℤ at_chunk cs (from_lows box cell)) steps in
      let l : length (numbers (map (map_value [] cell) maps)) ≡ length chunk = length-mapped unsigned_abs (map (map_value [] cell) maps) ∙ length-mapped (map_value [] cell) maps ∙ h.same in
      let lt = place_within-lt chunk (numbers (map (map_value [] cell) maps)) l h.sizes in
      let s = h.small in
      let w : place_within chunk (numbers (map (map_value [] cell) maps)) < 2 ^ 24 = omega (arith, lt, s) in
      (omega (arith, ints, p), below (place_within chunk (numbers (map (map_value [] cell) maps))) _ p w)
    where
      below : (n : ℕ) (z : ℤ) → pos n ≡ z → n < 2 ^ 24 → z <ℤ pos 4294967296
      below n z e q = omega (arith, ints, e, q)

  stays : StayPlaces (box_loops dims maps chunk box) (pos (first_chunk maps chunk box))
  stays = box-stays dims box (view_steps dims) (chunk_steps (length dims) maps chunk) (pos (first_chunk maps chunk box)) views chunks h.inside place-is

  pub view-small : cell_place dims (lows box) + view_reach (kept (box_loops dims maps chunk box)) < 4194304
  view-small =
      let r = box-reach dims box (chunk_steps (length dims) maps chunk) chunks h.inside in
      let k = reach-kept (box_loops dims maps chunk box) in
      let f = h.few in
      omega (arith, r, k, f)

  pub kept-run : AllRun (kept (box_loops dims maps chunk box))
  kept-run = run-kept (box_loops dims maps chunk box) runs

  pub kept-rise : ViewsRise (kept (box_loops dims maps chunk box))
  kept-rise = rise-kept (box_loops dims maps chunk box) (box-rises dims box (chunk_steps (length dims) maps chunk) chunks h.inside)

  pub kept-stay : StayPlaces (kept (box_loops dims maps chunk box)) (pos (first_chunk maps chunk box))
  kept-stay = stay-kept (box_loops dims maps chunk box) (pos (first_chunk maps chunk box)) runs stays

  pub small-steps : AllByRecursion IsSmallStep (box_loops dims maps chunk box)
  small-steps = steps-small (box_loops dims maps chunk box) (pos (first_chunk maps chunk box)) runs stays

  pub kept-looped : looped (kept (box_loops dims maps chunk box)) (cell_place dims (lows box)) (pos (first_chunk maps chunk box)) ≡ map (pair_at_cell dims maps chunk) (cells_of box)
  kept-looped =
      looped-kept (box_loops dims maps chunk box) (cell_place dims (lows box)) (pos (first_chunk maps chunk box))
      ∙ ap (λ (cs : List ℤ). looped (loops_of box (view_steps dims) cs) (cell_place dims (lows box)) (pos (first_chunk maps chunk box))) (sym steps)
      ∙ sym (box-looped dims box maps chunk (chunk_index chunk (numbers (map (map_value [] (lows box)) maps))) (above-box dims box h.inside) goes (positive chunk h.sizes) h.same first h.cells)
