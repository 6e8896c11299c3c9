use Rattle.std.proofs.Common.{length}
use Rattle.transform_json.proofs.Rows.{IsPut}
use Rattle.transform_json.proofs.arrays.+put_entries.Given as goal

abbrev pub decreases-put_entries : goal.decreases-put_entries
decreases-put_entries l = length l.sizes.now

abbrev pub invariant-loop-item : goal.invariant-loop-item
invariant-loop-item l = IsPut l.behind l.items l.item-index l.fn.out.items l.out.items
