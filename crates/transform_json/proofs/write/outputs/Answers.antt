use Rattle.std.proofs.Common.{◌∙◌, ap, map}
use Rattle.serde_json.proofs.Views.{view-Array}
use Rattle.serde_json.specs.View.{view}
use Rattle.transform_json.specs.Written.{map_data, HasWords, HasFewLists}
use Rattle.transform_json.proofs.Listing.{written_more, written_all, all_more, all_of_all}
use Rattle.transform_json.proofs.write.outputs.Goals as goal

pub loop-one-init : goal.loop-one-init
loop-one-init c = (ap (map view) c.in_ok-items.ensures.items, tt, tt)

pub loop-one-preserved : goal.loop-one-preserved
loop-one-preserved c = (
  written_more map_data c.args.maps.now c.loop-one.one-index c.loop-one.items.items c.push.new.self.items c.one-item.result c.in_ok-output.field-0 c.loop-one-test.true c.one-item.is
      c.in_ok-output.ensures.value c.in_ok-push.ensures.items c.loop-one.invariant.0,
  all_more HasWords c.args.maps.now c.loop-one.one-index c.one-item.result c.loop-one-test.true c.one-item.is c.in_ok-output.ensures.words c.loop-one.invariant.1,
  all_more HasFewLists c.args.maps.now c.loop-one.one-index c.one-item.result c.loop-one-test.true c.one-item.is c.in_ok-output.ensures.few c.loop-one.invariant.2,
)

pub returns : goal.returns
returns c = record {
  value = view-Array c.loop-one.items ∙ written_all map_data c.args.maps.now c.loop-one.one-index c.loop-one.items.items c.loop-one-test.false c.loop-one.invariant.0;
  words = all_of_all HasWords c.args.maps.now c.loop-one.one-index c.loop-one-test.false c.loop-one.invariant.1;
  few = all_of_all HasFewLists c.args.maps.now c.loop-one.one-index c.loop-one-test.false c.loop-one.invariant.2;
}
