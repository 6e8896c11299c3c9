use Rattle.std.proofs.Common.{◌∙◌, ap, sym, subst, length, map, replicate}
use Rattle.std.specs.List.{All}
use Rattle.cells.specs.Places.{cell_count}
use Rattle.chunk_grid.specs.Grid.{IsInShape}
use Rattle.chunk_grid.specs.Runs.{run_pieces}
use Rattle.index_transform.specs.Cells.{cells_of}
use Rattle.index_transform.specs.Transforms.{DomainAndMaps}
use Rattle.index_transform.specs.Values.{value_at}
use Rattle.transaction_cells.specs.Along.{numbered, targets_along}
use Rattle.transaction_cells.proofs.AlongCells.{cells_along, sites_within}
use Rattle.transaction_cells.proofs.along_runs.along_runs.Goals as goal

pub pieces_along-requires-clause-inside : goal.pieces_along-requires-clause-inside
pieces_along-requires-clause-inside c =
    subst (λ (t : DomainAndMaps). All (λ cell. IsInShape c.args.array.now.shape (value_at t cell)) (cells_of t.domain.dims)) (sym c.transform_of-transform.ensures.value) c.requires.within.inside

pub returns-clause-cells : goal.returns-clause-cells
returns-clause-cells c =
    let array = c.args.array.now in
    let own = c.transform_of-transform.ensures.value in
    cells_along c.args.v.now array c.in_ok-leaves.leaves c.lanes.inside.values.items c.in_ok-pieces_along.field-0 c.requires.within
    (c.in_ok-leaves.ensures ∙ ap (λ (t : DomainAndMaps). replicate (length (cells_of t.domain.dims)) 0) own) (c.lanes.view_is ∙ c.in_ok-lanes.ensures.lanes)
    (c.in_ok-pieces_along.ensures ∙ ap (λ (t : DomainAndMaps). map (numbered array.number (cell_count array.chunk)) (run_pieces array.chunk (targets_along t))) own)

pub returns-clause-sites : goal.returns-clause-sites
returns-clause-sites c = sites_within c.args.v.now c.args.array.now c.requires.within c.in_ok-lanes.ensures.ranks c.requires.view
