use Rattle.std.proofs.Common.{◌∙◌, ap, map}
use Rattle.serde_json.proofs.Views.{view-Array}
use Rattle.serde_json.specs.View.{view}
use Rattle.index_intervals.specs.Bounds.{AreBounds}
use Rattle.transform_json.specs.Written.{upper_data}
use Rattle.transform_json.proofs.Listing.{written_more, written_all, all_more, all_of_all}
use Rattle.transform_json.proofs.write.uppers.Goals as goal

pub loop-dim-init : goal.loop-dim-init
loop-dim-init c = (ap (map view) c.in_ok-items.ensures.items, tt)

pub loop-dim-preserved : goal.loop-dim-preserved
loop-dim-preserved c = (
  written_more upper_data c.args.dims.now c.loop-dim.dim-index c.loop-dim.items.items c.push.new.self.items c.dim-item.result c.in_ok-upper.field-0 c.loop-dim-test.true c.dim-item.is
      c.in_ok-upper.ensures.value c.in_ok-push.ensures.items c.loop-dim.invariant.0,
  all_more AreBounds c.args.dims.now c.loop-dim.dim-index c.dim-item.result c.loop-dim-test.true c.dim-item.is c.upper.ensures.bounds c.loop-dim.invariant.1,
)

pub returns : goal.returns
returns c = record {
  value = view-Array c.loop-dim.items ∙ written_all upper_data c.args.dims.now c.loop-dim.dim-index c.loop-dim.items.items c.loop-dim-test.false c.loop-dim.invariant.0;
  bounds = all_of_all AreBounds c.args.dims.now c.loop-dim.dim-index c.loop-dim-test.false c.loop-dim.invariant.1;
}
