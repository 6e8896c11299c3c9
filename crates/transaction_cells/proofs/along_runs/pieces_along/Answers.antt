use Rattle.std.proofs.Common.{ℕ, List, ap, sym, subst}
use Rattle.std.specs.List.{All}
use Rattle.chunk_grid.specs.Grid.{IsInShape, Shapes}
use Rattle.index_transform.specs.Cells.{cells_of}
use Rattle.index_transform.specs.Values.{value_at}
use Rattle.transaction_cells.proofs.along_runs.pieces_along.Goals as goal

pub runs-requires-clause-inside : goal.runs-requires-clause-inside
runs-requires-clause-inside c =
    let t = c.args.transform.now in
    subst (λ (shape : List ℕ). All (λ cell. IsInShape shape (value_at t cell)) (cells_of t.domain.dims)) (sym (ap (λ (grid : Shapes). grid.shape) c.in_ok-grid.ensures)) c.requires.inside
