use Rattle.std.proofs.Common.{◌≡◌, map}
use Rattle.std.specs.List.{range_with_len}
use Rattle.dim_changes.specs.Emptied.{refilled_dim}
use Rattle.dim_changes.proofs.cutting.refilled_dims.Given as goal

abbrev pub invariant-loop-dim : goal.invariant-loop-dim
invariant-loop-dim l = l.news.items ≡ map (refilled_dim l.act l.dims l.selected l.composed) (range_with_len 0 l.dim)
