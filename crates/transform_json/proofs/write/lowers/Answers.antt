use Rattle.std.proofs.Common.{◌∙◌, ap, map}
use Rattle.serde_json.proofs.Views.{view-Array}
use Rattle.serde_json.specs.View.{view}
use Rattle.transform_json.specs.Written.{lower_data}
use Rattle.transform_json.proofs.Listing.{written_more, written_all}
use Rattle.transform_json.proofs.write.lowers.Goals as goal

pub loop-dim-init : goal.loop-dim-init
loop-dim-init c = ap (map view) c.in_ok-items.ensures.items

pub loop-dim-preserved : goal.loop-dim-preserved
loop-dim-preserved c =
    written_more lower_data c.args.dims.now c.loop-dim.dim-index c.loop-dim.items.items c.push.new.self.items c.dim-item.result c.in_ok-lower.field-0 c.loop-dim-test.true c.dim-item.is
    c.in_ok-lower.ensures c.in_ok-push.ensures.items c.loop-dim.invariant

pub returns : goal.returns
returns c = view-Array c.loop-dim.items ∙ written_all lower_data c.args.dims.now c.loop-dim.dim-index c.loop-dim.items.items c.loop-dim-test.false c.loop-dim.invariant
