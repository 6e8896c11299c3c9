use Rattle.transform_json.proofs.MapLists.{identity_more}
use Rattle.transform_json.proofs.output.identity.Goals as goal

pub loop-dim-preserved : goal.loop-dim-preserved
loop-dim-preserved c = rw c.in_ok-push.ensures.items (identity_more c.args.dims.now c.loop-dim.dim c.loop-dim.maps.items c.loop-dim-test.true c.loop-dim.invariant)
