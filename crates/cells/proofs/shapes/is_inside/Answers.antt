use Rattle.std.proofs.Common.{arith}
use Rattle.cells.specs.Places.{IsInside}
use Rattle.cells.proofs.PlaceLaws.{IsInside-length, IsInside-below, IsInside-from_below}
use Rattle.cells.proofs.ShapeLaws.{inside_tested, outside_tested}
use Rattle.cells.proofs.shapes.is_inside.Goals as goal

pub returns-then-index-shape : goal.returns-then-index-shape
returns-then-index-shape c =
    let tested = outside_tested c.args.shape.now c.args.index.now (λ inside. c.if-index-shape.true (IsInside-length c.args.shape.now c.args.index.now inside)) in
    record { value = tested.0; meaning = tested.1 }

pub returns-then-shape-k : goal.returns-then-shape-k
returns-then-shape-k c =
    let past : ¬ IsInside c.args.shape.now c.args.index.now = λ inside.
    let below = IsInside-below c.args.shape.now c.args.index.now c.loop-k.k inside c.loop-k-test.true in omega (arith, below, c.if-shape-k.true) in
    let tested = outside_tested c.args.shape.now c.args.index.now past in
    record { value = tested.0; meaning = tested.1 }

pub returns : goal.returns
returns c =
    let tested = inside_tested c.args.shape.now c.args.index.now
    (IsInside-from_below c.args.shape.now c.args.index.now c.if-index-shape.false (λ j less. c.loop-k.invariant j (omega (arith, less, c.loop-k-test.false)))) in
    record { value = tested.0; meaning = tested.1 }
