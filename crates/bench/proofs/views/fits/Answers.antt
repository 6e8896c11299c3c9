use Rattle.std.proofs.Common.{ℕ, List, subst}
use Rattle.std.specs.List.{All}
use Rattle.index_transform.specs.Cells.{cells_of}
use Rattle.index_transform.specs.Values.{value_at}
use Rattle.chunk_grid.specs.Grid.{IsInShape}
use Rattle.bench.proofs.views.fits.Goals as goal

pub returns-in-None : goal.returns-in-None
returns-in-None c = λ _.
    subst (λ (shape : List ℕ). All (λ cell. IsInShape shape (value_at c.args.t.now cell)) (cells_of c.args.t.now.domain.dims)) c.shape-2.ensures.value
    (c.first_leaving.ensures.inside c.in-None.is)
