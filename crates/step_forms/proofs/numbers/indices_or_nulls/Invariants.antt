use Rattle.json_forms.proofs.Laws.{Collected}
use Rattle.step_forms.specs.Forms.{index_of, or_null}
use Rattle.step_forms.proofs.numbers.indices_or_nulls.Given as goal

abbrev pub invariant-loop-item : goal.invariant-loop-item
invariant-loop-item l = Collected (or_null index_of) l.items l.item-index l.numbers.items
