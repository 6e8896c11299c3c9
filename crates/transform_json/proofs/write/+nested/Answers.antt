use Rattle.std.proofs.Common.{◌≡◌, ◌/◌, length, map, get_or, ap, ◌∙◌, arith}
use Rattle.cells.specs.Places.{cell_count}
use Rattle.serde_json.specs.View.{view}
use Rattle.serde_json.proofs.Views.{view-Array}
use Rattle.transform_json.proofs.NestedLaws.{behind, row-is, nested_more, nested_rows}
use Rattle.transform_json.proofs.write.+nested.Goals as goal

pub loop-i-init : goal.loop-i-init
loop-i-init t c = ap (map view) c.in_ok-items.ensures.items

pub loop-i-preserved : goal.loop-i-preserved
loop-i-preserved t c =
    let sizes = c.args.sizes.now in
    let entries = c.args.entries.now in
    let row : length entries / get_or sizes 0 0 ≡ cell_count (behind sizes) = row-is sizes (length entries) c.in-len1-up.len_at_least c.requires (omega arith) in
    let more = nested_more sizes entries c.loop-i.items.items c.loop-i.i (length entries / get_or sizes 0 0) c.in_ok-nested.field-0 row c.in_ok-nested.ensures c.loop-i.invariant in
    rw c.in_ok-push.ensures.items more

pub returns : goal.returns
returns t c =
    view-Array c.loop-i.items ∙ nested_rows c.args.sizes.now c.args.entries.now c.loop-i.items.items c.loop-i.i c.in-len1-up.len_at_least (omega (arith, c.loop-i-test.false, c.loop-i.auto.i-end)) c.loop-i.invariant
