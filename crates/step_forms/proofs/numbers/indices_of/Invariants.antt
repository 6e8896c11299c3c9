use Rattle.json_forms.proofs.Laws.{Collected}
use Rattle.step_forms.specs.Forms.{index_of}
use Rattle.step_forms.proofs.numbers.indices_of.Given as goal

abbrev pub invariant-loop-item : goal.invariant-loop-item
invariant-loop-item l = Collected index_of l.items l.item-index l.numbers.items
