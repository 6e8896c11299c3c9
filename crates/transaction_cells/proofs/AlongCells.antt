-- The cells of a view of one array, by the runs in which they lie.
use Rattle.std.proofs.Common.{◌≡◌, ◌∙◌, ℕ, zero, suc, List, [], ◌∷◌, length, map, replicate, refl, sym, ap, subst, arith}
use Rattle.std.specs.List.{AllByRecursion}
use Rattle.std.proofs.lemmas.List.{length-map}
use Rattle.cells.specs.Places.{cell_count}
use Rattle.chunk_grid.specs.Grid.{numbers}
use Rattle.chunk_grid.specs.Runs.{run_pieces}
use Rattle.index_transform.specs.Cells.{cells_of}
use Rattle.index_transform.specs.Values.{value_at}
use Rattle.stack_driver.specs.Conditions.{IsView}
use Rattle.stack_driver.specs.References.{Reference}
use Rattle.stack_driver.specs.Views.{own_transform}
use Rattle.stack_driver.specs.declared.view.View.{View}
use Rattle.stack_targets.specs.Landings.{leaves_of}
use Rattle.transaction_cells.specs.Along.{IsWithin, numbered, targets_along}
use Rattle.transaction_cells.specs.Casting.{HasLane, casts_at}
use Rattle.transaction_cells.specs.Lanes.{HasGrid, LaneSeen, lane_of}
use Rattle.transaction_cells.specs.Operations.{HasSites}
use Rattle.transaction_cells.specs.Pieces.{AreCells}
use Rattle.transaction_cells.specs.Sites.{Site, site_by, sites_of}
use Rattle.transaction_cells.specs.declared.view_cells.Piece.{Piece}
use Rattle.transaction_cells.proofs.AlongLaws.{all_along, landings_along, of_one, sites_along}
use Rattle.transaction_cells.proofs.GridPieces.{pieces_along}
use Rattle.transaction_cells.proofs.ToldLaws.{has_sites}

-- each cell has the one lane, and its casts
one_lane : (lane : LaneSeen) (n : ℕ) → AllByRecursion (HasLane (lane ∷ [])) (replicate n 0)
one_lane lane zero = tt
one_lane lane (suc n) = (omega arith, one_lane lane n)

casts_along : (lane : LaneSeen) (targets : List (List ℕ)) → map (λ (s : Site). s.target.casts) (map (site_by lane) targets) ≡ map (casts_at (lane ∷ [])) (replicate (length targets) 0)
casts_along lane [] = refl
casts_along lane (x ∷ targets) = ap (λ cs. lane.casts ∷ cs) (casts_along lane targets)

made : (lane : LaneSeen) (targets : List (List ℕ)) → AreCells (map (site_by lane) targets) (record {
  leaves = replicate (length targets) 0;
  lanes = lane ∷ [];
  pieces = map (numbered lane.array (cell_count lane.chunk)) (run_pieces lane.chunk targets);
})
made lane targets = record { lanes = one_lane lane (length targets); casts = casts_along lane targets; pieces = pieces_along lane targets }

-- leaves, lanes and pieces that are those of the transform are those of the view
pub cells_along : (v : View) (array : Reference) (leaves : List ℕ) (lanes : List LaneSeen) (pieces : List Piece) → IsWithin v array → leaves ≡ replicate (length (cells_of (own_transform v).domain.dims)) 0 → lanes ≡ map lane_of (leaves_of v)
    → pieces ≡ map (numbered array.number (cell_count array.chunk)) (run_pieces array.chunk (targets_along (own_transform v)))
    → AreCells (sites_of v) (record { leaves = leaves; lanes = lanes; pieces = pieces })
cells_along v array leaves lanes pieces h zeros same are =
    let t = own_transform v in
    let one = of_one v array h.of_array in
    let lane : LaneSeen = record { array = array.number; chunk = array.chunk; casts = one.casts } in
    let count : length (targets_along t) ≡ length (cells_of t.domain.dims) = length-map (cells_of t.domain.dims) (λ cell. numbers (value_at t cell)) in
    let first : leaves ≡ replicate (length (targets_along t)) 0 = zeros ∙ ap (λ n. replicate n 0) (sym count) in
    let only : lanes ≡ lane ∷ [] = same ∙ ap (map lane_of) one.leaves in
    subst (λ (p : List Site × (List ℕ × (List LaneSeen × List Piece))). AreCells p.0 (record { leaves = p.1.0; lanes = p.1.1.0; pieces = p.1.1.1 }))
    (λ i. (sym (sites_along v array h) i, (sym first i, (sym only i, sym are i))))
    (made lane (targets_along t))

-- such a view has a target for each cell
pub sites_within : (v : View) (array : Reference) → IsWithin v array → AllByRecursion HasGrid (leaves_of v) → IsView v → HasSites v
sites_within v array h grids valid = has_sites v (landings_along (own_transform v)) (all_along v array h) grids valid
