use Rattle.std.proofs.Common.{◌∙◌, sym, ◌≡◌, add-one, arith}
use Rattle.cells.specs.Places.{cell_count}
use Rattle.cells.proofs.PlaceSteps.{cell_count-zero, cell_count-above, cell_count-step, cell_count-bound}
use Rattle.cells.proofs.places.count_cells.Goals as goal

pub returns-then-contains : goal.returns-then-contains
returns-then-contains c =
    let none : cell_count c.args.shape.now ≡ 0 = cell_count-zero c.args.shape.now (sym c.contains.ensures.value ∙ c.if-contains.true) in
    (omega arith, sym none)

pub returns-in-None : goal.returns-in-None
returns-in-None c = λ within.
    let above = cell_count-above c.args.shape.now (sym c.contains.ensures.value ∙ c.if-contains.false) in
    let bound = cell_count-bound c.args.shape.now c.loop-size.size-index c.loop-size.count above c.loop-size-test.true c.loop-size.invariant in
    omega (arith, c.in-None.ensures)

pub loop-size-preserved : goal.loop-size-preserved
loop-size-preserved c =
    let step = cell_count-step c.args.shape.now c.loop-size.size-index c.loop-size.count c.loop-size-test.true c.loop-size.invariant in
    rw (add-one c.loop-size.size-index, c.in-Some.ensures.1) step
