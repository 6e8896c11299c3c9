use Rattle.std.proofs.Common.{◌∙◌, ◌+◌, min, map, take, ap}
use Rattle.stack_driver.specs.Counts.{leaves_of, sum_of}
use Rattle.stack_driver.proofs.Tallies.{leaves-more}
use Rattle.stack_driver.proofs.counting.+leaves.Goals as goal

pub all_leaves-loop-layer-preserved : goal.all_leaves-loop-layer-preserved
all_leaves-loop-layer-preserved t c =
    let layers = c.args.layers.now in
    let k = c.loop-layer.layer-index in
    c.saturating_add-count.ensures ∙ ap (λ n. min (n + c.leaves.result) 4294967295) c.loop-layer.invariant
    ∙ ap (λ n. min (min (sum_of (map leaves_of (take k layers))) 4294967295 + n) 4294967295) c.leaves.ensures
    ∙ leaves-more layers k c.layer-item.result 4294967295 c.loop-layer-test.true c.layer-item.is
