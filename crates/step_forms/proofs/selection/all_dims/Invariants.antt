use Rattle.std.proofs.Common.{◌≡◌, ◌<◌}
use Rattle.std.specs.List.{All, range_with_len}
use Rattle.step_forms.proofs.selection.all_dims.Given as goal

abbrev pub invariant-loop-dim : goal.invariant-loop-dim
invariant-loop-dim l = record {
  listed : l.dims.items ≡ range_with_len 0 l.dim;
  known : All (λ dim. dim < l.rank) l.dims.items;
}
