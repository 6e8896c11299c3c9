use Rattle.json_forms.proofs.Laws.{Collected}
use Rattle.step_forms.specs.Acts.{slice_part_of}
use Rattle.step_forms.proofs.slices.slice_parts_of.Given as goal

abbrev pub invariant-loop-item : goal.invariant-loop-item
invariant-loop-item l = Collected slice_part_of l.items l.item-index l.parts.items
