use Rattle.std.proofs.Common.{◌≡◌, ◌++◌, List, length, drop}
use Rattle.std.specs.List.{AllByRecursion}
use Rattle.history.specs.Acts.{Asked, all_named}
use Rattle.indexmap.specs.IndexMap.{get_by_text}
use Rattle.stack_driver.specs.Conditions.{IsView}
use Rattle.stack_driver.specs.declared.view.View.{View}
use Rattle.line_acts.proofs.joining.all_named.Given as goal

abbrev pub invariant-loop-layer : goal.invariant-loop-layer
invariant-loop-layer l = record {
  told : (next : List View → Asked) → all_named (get_by_text l.names) l.layers next ≡ all_named (get_by_text l.names) (drop l.layer-index l.layers) (λ vs. next (l.views.items ++ vs));
  count : length l.views.items ≡ l.layer-index;
  each : AllByRecursion IsView l.views.items;
}
