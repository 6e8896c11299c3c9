use Rattle.std.proofs.Common.{◌∙◌, min, max, map, take, ap}
use Rattle.stack_driver.specs.Counts.{depth_of, greatest_of}
use Rattle.stack_driver.proofs.Tallies.{depth-more}
use Rattle.stack_driver.proofs.counting.+depth.Goals as goal

pub deepest-loop-layer-preserved : goal.deepest-loop-layer-preserved
deepest-loop-layer-preserved t c =
    let layers = c.args.layers.now in
    let k = c.loop-layer.layer-index in
    c.max-most.ensures ∙ ap (λ n. max n c.depth.result) c.loop-layer.invariant
    ∙ ap (λ n. max (min (greatest_of (map depth_of (take k layers))) 4294967295) n) c.depth.ensures
    ∙ depth-more layers k c.layer-item.result 4294967295 c.loop-layer-test.true c.layer-item.is
