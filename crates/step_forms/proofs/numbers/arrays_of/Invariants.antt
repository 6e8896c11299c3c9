use Rattle.json_forms.proofs.Laws.{Collected}
use Rattle.step_forms.specs.Forms.{index_of, list_by}
use Rattle.step_forms.proofs.numbers.arrays_of.Given as goal

abbrev pub invariant-loop-item : goal.invariant-loop-item
invariant-loop-item l = Collected (list_by index_of) l.items l.item-index l.arrays.items
