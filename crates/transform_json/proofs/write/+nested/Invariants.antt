use Rattle.std.proofs.Common.{◌≡◌, ◌*◌, length, map, take, drop}
use Rattle.std.specs.List.{range_with_len}
use Rattle.serde_json.specs.View.{view}
use Rattle.cells.specs.Places.{cell_count}
use Rattle.transform_json.specs.Written.{nested_data}
use Rattle.transform_json.proofs.write.+nested.Given as goal

abbrev pub decreases-nested : goal.decreases-nested
decreases-nested l = length l.sizes.now

abbrev pub invariant-loop-i : goal.invariant-loop-i
invariant-loop-i l = map view l.items.items ≡ map (λ i. nested_data l.behind (take (cell_count l.behind) (drop (i * cell_count l.behind) l.entries))) (range_with_len 0 l.i)
