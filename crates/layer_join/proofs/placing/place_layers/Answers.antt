use Rattle.std.proofs.Common.{◌∙◌, sym, ap}
use Rattle.std.proofs.Math.ListN.{set}
use Rattle.layer_join.specs.Placed.{placed_from, placed_view}
use Rattle.layer_join.proofs.PlacedLaws.{length-placed_from}
use Rattle.layer_join.proofs.Steps.{placing-next, all_done}
use Rattle.layer_join.proofs.placing.place_layers.Goals as goal

pub loop-k-preserved : goal.loop-k-preserved
loop-k-preserved c =
    let v = c.index-layers-k.result in
    ap (set c.loop-k.layers c.loop-k.k) (c.in_ok-place.ensures ∙ ap (placed_view c.args.axis c.loop-k.k) (sym c.index-layers-k.is))
    ∙ placing-next c.args.axis c.args.layers.now c.loop-k.layers c.loop-k.k v c.loop-k.invariant c.loop-k-test.true c.index-layers-k.is

pub returns : goal.returns
returns c = c.loop-k.invariant ∙ all_done (placed_from 0 c.args.axis c.args.layers.now) c.args.layers.now c.loop-k.k (length-placed_from c.args.axis 0 c.args.layers.now) c.loop-k-test.false
