use Rattle.std.proofs.Common.{◌≡◌, map, take}
use Rattle.serde_json.specs.View.{view}
use Rattle.json_forms.specs.Numbers.{integer}
use Rattle.json_forms.proofs.lists.list_from_i64s.Given as goal

abbrev pub invariant-loop-integer : goal.invariant-loop-integer
invariant-loop-integer l = map view l.items.items ≡ map integer (take l.integer-index l.numbers)
