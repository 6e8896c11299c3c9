use Rattle.std.proofs.Common.{◌≡◌}
use Rattle.dim_changes.specs.Dims.{others}
use Rattle.dim_changes.proofs.dims.others.Given as goal

abbrev pub invariant-loop-dim : goal.invariant-loop-dim
invariant-loop-dim l = l.rest.items ≡ others l.selected l.dim
