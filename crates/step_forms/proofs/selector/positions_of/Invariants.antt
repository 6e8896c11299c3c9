use Rattle.json_forms.proofs.Laws.{Collected}
use Rattle.std.specs.Prelude.{option_map}
use Rattle.step_forms.specs.Forms.{index_of}
use Rattle.step_forms.specs.declared.act.Select.TheVariants as select
use Rattle.step_forms.proofs.selector.positions_of.Given as goal

abbrev pub invariant-loop-item : goal.invariant-loop-item
invariant-loop-item l = Collected (λ x. option_map select.Position (index_of x)) l.items l.item-index l.selectors.items
