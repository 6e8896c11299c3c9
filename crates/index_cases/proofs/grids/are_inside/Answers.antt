use Rattle.std.proofs.Common.{ℕ, ℤ, List, get_or, below_more, subst, arith}
use Rattle.std.proofs.lemmas.List.Elements.{at_read}
use Rattle.chunk_grid.specs.Grid.{IsInShape}
use Rattle.index_cases.proofs.grids.are_inside.Goals as goal

pub loop-cell-preserved : goal.loop-cell-preserved
loop-cell-preserved c = λ k d lt.
    let P : List ℤ → Type 0 = IsInShape c.args.shape.now in
    let inside = c.is_inside.ensures c.if-not-is_inside.false in
    let one : P c.cell-item.result = subst P c.items.ensures inside in
    let i = c.loop-cell.cell-index in
    below_more (λ (j : ℕ). (e : List ℤ) → P (get_or c.args.cells.now j e)) i (λ j below e. c.loop-cell.invariant j e below)
    (at_read c.args.cells.now P i c.cell-item.result c.loop-cell-test.true c.cell-item.is one) k lt d

pub returns : goal.returns
returns c = λ t k d lt. c.loop-cell.invariant k d (omega (arith, lt, c.loop-cell-test.false))
