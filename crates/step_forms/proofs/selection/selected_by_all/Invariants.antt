use Rattle.std.proofs.Common.{◌<◌, drop}
use Rattle.std.specs.List.{All}
use Rattle.step_forms.specs.Selection.{selected_by_all}
use Rattle.step_forms.proofs.Gathered.{Gathered}
use Rattle.step_forms.proofs.selection.selected_by_all.Given as goal

abbrev pub invariant-loop-selector : goal.invariant-loop-selector
invariant-loop-selector l = record {
  found : Gathered l.dims.items (selected_by_all l.rank l.labels (drop l.selector-index l.selectors)) (selected_by_all l.rank l.labels l.selectors);
  known : All (λ dim. dim < l.rank) l.dims.items;
}
