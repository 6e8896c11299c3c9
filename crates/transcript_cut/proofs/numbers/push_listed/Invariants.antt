use Rattle.std.proofs.Common.{◌≡◌, ◌++◌, map, take}
use Rattle.std.specs.Prelude.{filter_map}
use Rattle.serde_json.specs.View.{view}
use Rattle.transcript_laws.specs.Numbers.{event_of}
use Rattle.transcript_cut.proofs.numbers.push_listed.Given as goal

abbrev pub invariant-loop-item : goal.invariant-loop-item
invariant-loop-item l = l.numbers.items ≡ l.fn.numbers.items ++ filter_map event_of (map view (take l.item-index l.items))
