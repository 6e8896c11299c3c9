use Rattle.std.proofs.Common.{option_and_then}
use Rattle.serde_json.specs.Find.{as_number, as_u64}
use Rattle.json_forms.proofs.Collecting.{Collected}
use Rattle.json_forms.proofs.lists.u64_list.Given as goal

abbrev pub invariant-loop-item : goal.invariant-loop-item
invariant-loop-item l = Collected (λ d. option_and_then as_u64 (as_number d)) l.items l.item-index l.numbers.items
