use Rattle.std.proofs.Common.{◌∙◌, ◌<◌, None, length, get_or, arith}
use Rattle.cells.proofs.Laws.{list_all-at}
use Rattle.index_transform.proofs.Laws.{get_or-inside}
use Rattle.downsample_view.specs.Places.{is_below}
use Rattle.downsample_view.proofs.Filling.{fill-step}
use Rattle.downsample_view.proofs.slots.fill.Goals as goal

pub loop-k-preserved : goal.loop-k-preserved
loop-k-preserved c =
    let k = c.loop-k.k in
    let places = c.args.places.now in
    let words = c.args.words.now in
    let n = length c.args.slots.now in
    let p = get_or places k None in
    let w = get_or words k 0 in
    let b = c.loop-k-test.true in
    let same = c.requires.same in
    let b' : k < length words = omega (arith, b, same) in
    c.put.ensures
    ∙ fill-step c.args.method c.args.dtype c.loop-k.slots places words k n p w b b' (get_or-inside places k None p b) (get_or-inside words k 0 w b')
    (list_all-at (is_below n) places None c.requires.below k b) c.loop-k.invariant
