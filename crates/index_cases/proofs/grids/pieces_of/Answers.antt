use Rattle.std.proofs.Common.{ℕ, ℤ, List, subst, arith}
use Rattle.std.specs.List.{All}
use Rattle.index_transform.specs.Cells.{cells_of}
use Rattle.index_transform.specs.Shapes.{IsInShape}
use Rattle.index_transform.specs.Values.{value_at}
use Rattle.index_cases.proofs.grids.pieces_of.Goals as goal

pub runs-requires-clause-few : goal.runs-requires-clause-few
runs-requires-clause-few c = omega (arith, c.in-Ok.ensures.number)

pub runs-requires-clause-inside : goal.runs-requires-clause-inside
runs-requires-clause-inside c =
    subst (λ (ns : List ℕ). All (λ (cell : List ℤ). IsInShape ns (value_at c.args.t.now cell)) (cells_of c.args.t.now.domain.dims)) c.shape.ensures.value (c.in_ok-first_leaving.ensures.0 c.in-None.is)
