use Rattle.std.proofs.Common.{ℤ, List, map, refl}
use Rattle.index_transform.specs.Cells.{cells_of}
use Rattle.index_transform.specs.Values.{value_at}
use Rattle.chunk_grid.specs.Grid.{numbers}
use Rattle.chunk_grid.proofs.CutLaws.{told_pieces}
use Rattle.chunk_grid.proofs.cutting.cut_cells.Goals as goal

pub returns : goal.returns
returns c =
    let targets = map (λ (cell : List ℤ). numbers (value_at c.args.t.now cell)) (cells_of c.args.t.now.domain.dims) in
    told_pieces c.pieces_of.result c.args.grid.now.chunk targets targets c.put_cells.new.cuts c.in_ok-put_cells.ensures refl c.pieces_of.ensures.pieces c.pieces_of.ensures.ordered

pub put_cells-requires-clause-empty : goal.put_cells-requires-clause-empty
put_cells-requires-clause-empty c = c.new_cuts-cuts.ensures c.args.grid.now.chunk
