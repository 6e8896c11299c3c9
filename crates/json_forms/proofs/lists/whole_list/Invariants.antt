use Rattle.json_forms.specs.Numbers.{whole_number}
use Rattle.json_forms.proofs.Collecting.{Collected}
use Rattle.json_forms.proofs.lists.whole_list.Given as goal

abbrev pub invariant-loop-item : goal.invariant-loop-item
invariant-loop-item l = Collected whole_number l.items l.item-index l.numbers.items
