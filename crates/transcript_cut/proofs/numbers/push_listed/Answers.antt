use Rattle.std.proofs.Common.{◌<◌, ◌++◌, length, map, take, sym, ap, ◌∙◌, append_assoc, arith}
use Rattle.std.specs.Prelude.{filter_map}
use Rattle.serde_json.specs.View.{view}
use Rattle.transcript_laws.specs.Numbers.{event_of, single}
use Rattle.transcript_cut.proofs.Values.{listed_more}
use Rattle.transcript_cut.proofs.numbers.push_listed.Goals as goal

pub loop-item-preserved : goal.loop-item-preserved
loop-item-preserved c =
    let items = c.in-Some-list_items.items.now in
    let before = c.args.numbers.now.items in
    let low : c.loop-item.item-index < length items = omega arith in
    c.in_ok-push_number.ensures
    ∙ ap (λ ns. ns ++ single (event_of (view c.item-item.result))) c.loop-item.invariant
    ∙ append_assoc before (filter_map event_of (map view (take c.loop-item.item-index items))) (single (event_of (view c.item-item.result)))
    ∙ ap (λ ns. before ++ ns) (sym (listed_more view items c.loop-item.item-index c.item-item.result low c.item-item.is))
