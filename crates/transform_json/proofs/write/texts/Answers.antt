use Rattle.std.proofs.Common.{◌∙◌, ap, map}
use Rattle.serde_json.proofs.Views.{view-Array}
use Rattle.serde_json.specs.View.{view}
use Rattle.serde_json.specs.Data.{string}
use Rattle.transform_json.proofs.Listing.{written_more, written_all}
use Rattle.transform_json.proofs.write.texts.Goals as goal

pub loop-label-init : goal.loop-label-init
loop-label-init c = ap (map view) c.in_ok-items.ensures.items

pub loop-label-preserved : goal.loop-label-preserved
loop-label-preserved c =
    written_more (λ label. string label) c.args.labels.now c.loop-label.label-index c.loop-label.items.items c.push.new.self.items c.label-item.result c.in_ok-try_from_str.field-0 c.loop-label-test.true c.label-item.is
    (c.in_ok-try_from_str.ensures ∙ ap (λ text. string text) c.items.ensures) c.in_ok-push.ensures.items c.loop-label.invariant

pub returns : goal.returns
returns c = view-Array c.loop-label.items ∙ written_all (λ label. string label) c.args.labels.now c.loop-label.label-index c.loop-label.items.items c.loop-label-test.false c.loop-label.invariant
