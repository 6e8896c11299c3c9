use Rattle.serde_json.specs.Find.{as_str}
use Rattle.json_forms.proofs.Laws.{Collected}
use Rattle.transform_json.proofs.input.texts.Given as goal

abbrev pub invariant-loop-item : goal.invariant-loop-item
invariant-loop-item l = Collected as_str l.items l.item-index l.labels.items
