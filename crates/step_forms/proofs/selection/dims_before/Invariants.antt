use Rattle.std.proofs.Common.{◌<◌}
use Rattle.std.specs.List.{All}
use Rattle.json_forms.specs.Lists.{all_of}
use Rattle.step_forms.specs.Selection.{dim_numbered, all_before}
use Rattle.step_forms.proofs.Gathered.{Gathered}
use Rattle.step_forms.proofs.Ranges.{reach}
use Rattle.step_forms.proofs.selection.dims_before.Given as goal

abbrev pub invariant-loop-dim : goal.invariant-loop-dim
invariant-loop-dim l = record {
  found : Gathered l.dims.items (all_of (dim_numbered l.rank) (all_before l.step l.stop l.x)) (all_of (dim_numbered l.rank) (all_before l.step l.stop l.initial.x));
  known : All (λ dim. dim < l.rank) l.dims.items;
}

abbrev pub decreases-loop-dim : goal.decreases-loop-dim
decreases-loop-dim l = reach l.step l.stop l.x
