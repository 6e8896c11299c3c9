use Rattle.std.proofs.Common.{ℤ, List, map}
use Rattle.index_transform.specs.Cells.{cells_of}
use Rattle.index_transform.specs.Values.{value_at}
use Rattle.chunk_grid.specs.Grid.{numbers}
use Rattle.chunk_grid.proofs.RunLaws.{told-unrolled}
use Rattle.chunk_grid.proofs.OnceLaws.{told-cut}
use Rattle.chunk_grid.proofs.cutting.runs.Goals as goal

pub returns-then-not-has_cells-clause-cells : goal.returns-then-not-has_cells-clause-cells
returns-then-not-has_cells-clause-cells c =
    told-unrolled c.cut_cells.result c.args.grid.now.chunk (map (λ (cell : List ℤ). numbers (value_at c.args.t.now cell)) (cells_of c.args.t.now.domain.dims)) c.cut_cells.ensures

pub returns-then-not-has_cells-clause-cut : goal.returns-then-not-has_cells-clause-cut
returns-then-not-has_cells-clause-cut c =
    told-cut c.cut_cells.result c.args.grid.now.chunk (map (λ (cell : List ℤ). numbers (value_at c.args.t.now cell)) (cells_of c.args.t.now.domain.dims)) c.cut_cells.ensures

pub returns-then-are_regular-clause-cells : goal.returns-then-are_regular-clause-cells
returns-then-are_regular-clause-cells c =
    told-unrolled c.cut_boxes.result c.args.grid.now.chunk (map (λ (cell : List ℤ). numbers (value_at c.args.t.now cell)) (cells_of c.args.t.now.domain.dims)) c.cut_boxes.ensures

pub returns-then-are_regular-clause-cut : goal.returns-then-are_regular-clause-cut
returns-then-are_regular-clause-cut c =
    told-cut c.cut_boxes.result c.args.grid.now.chunk (map (λ (cell : List ℤ). numbers (value_at c.args.t.now cell)) (cells_of c.args.t.now.domain.dims)) c.cut_boxes.ensures

pub returns-else-are_regular-clause-cells : goal.returns-else-are_regular-clause-cells
returns-else-are_regular-clause-cells c =
    told-unrolled c.cut_indexed.result c.args.grid.now.chunk (map (λ (cell : List ℤ). numbers (value_at c.args.t.now cell)) (cells_of c.args.t.now.domain.dims)) c.cut_indexed.ensures

pub returns-else-are_regular-clause-cut : goal.returns-else-are_regular-clause-cut
returns-else-are_regular-clause-cut c =
    told-cut c.cut_indexed.result c.args.grid.now.chunk (map (λ (cell : List ℤ). numbers (value_at c.args.t.now cell)) (cells_of c.args.t.now.domain.dims)) c.cut_indexed.ensures
