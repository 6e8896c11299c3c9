use Rattle.json_forms.proofs.Laws.{Collected}
use Rattle.serde_json.specs.Find.{as_str}
use Rattle.step_forms.proofs.numbers.texts_of_list.Given as goal

abbrev pub invariant-loop-item : goal.invariant-loop-item
invariant-loop-item l = Collected as_str l.items l.item-index l.texts.items
