use Rattle.json_forms.proofs.Laws.{Collected}
use Rattle.step_forms.specs.Acts.{selector_of}
use Rattle.step_forms.proofs.selector.selectors_of.Given as goal

abbrev pub invariant-loop-item : goal.invariant-loop-item
invariant-loop-item l = Collected selector_of l.items l.item-index l.selectors.items
