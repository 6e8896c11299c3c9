use Rattle.std.proofs.Common.{◌≡◌, map, take}
use Rattle.serde_json.specs.View.{view}
use Rattle.json_forms.specs.Numbers.{natural}
use Rattle.json_forms.proofs.lists.list_from_u64s.Given as goal

abbrev pub invariant-loop-number : goal.invariant-loop-number
invariant-loop-number l = map view l.items.items ≡ map natural (take l.number-index l.numbers)
