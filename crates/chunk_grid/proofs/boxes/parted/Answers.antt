use Rattle.std.proofs.Common.{◌++◌, ◌∷◌, [], List, sym, subst}
use Rattle.chunk_grid.specs.declared.boxes.Boxed.{Boxed}
use Rattle.chunk_grid.specs.Boxes.{chunk_along}
use Rattle.chunk_grid.specs.BoxSteps.{AreSplit}
use Rattle.chunk_grid.proofs.BoxParts.{split-more}
use Rattle.chunk_grid.proofs.boxes.parted.Goals as goal

pub loop-cells-preserved : goal.loop-cells-preserved
loop-cells-preserved c =
    let number = chunk_along c.args.map.now c.args.size in
    let done = c.loop-cells.yielded in
    let cells = c.in-Some.cells in
    subst (λ (out : List Boxed). AreSplit number (done ++ cells ∷ []) out) (sym c.in_ok-append.ensures.items)
    (split-more number done c.loop-cells.all.items cells c.in_ok-parts.parts.items c.loop-cells.invariant c.in_ok-parts.ensures)
