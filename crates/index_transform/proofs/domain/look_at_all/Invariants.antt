use Rattle.std.proofs.Common.{◌≡◌, drop}
use Rattle.std.specs.List.{list_all}
use Rattle.index_intervals.specs.Bounds.{are_bounds}
use Rattle.index_transform.proofs.domain.look_at_all.Given as goal

-- what is left decides
abbrev pub invariant-loop-dim : goal.invariant-loop-dim
invariant-loop-dim l = list_all are_bounds l.dims ≡ list_all are_bounds (drop l.dim-index l.dims)
