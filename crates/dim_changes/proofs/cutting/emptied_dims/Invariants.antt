use Rattle.std.proofs.Common.{◌≡◌, map}
use Rattle.std.specs.List.{range_with_len}
use Rattle.dim_changes.specs.Emptied.{emptied_dim}
use Rattle.dim_changes.proofs.cutting.emptied_dims.Given as goal

abbrev pub invariant-loop-dim : goal.invariant-loop-dim
invariant-loop-dim l = l.news.items ≡ map (emptied_dim l.act l.dims l.selected) (range_with_len 0 l.dim)
