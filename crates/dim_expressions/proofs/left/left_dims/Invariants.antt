use Rattle.std.proofs.Common.{◌≡◌, ◌++◌, map, take}
use Rattle.dim_changes.specs.Dims.{dim_at}
use Rattle.dim_expressions.proofs.left.left_dims.Given as goal

abbrev pub invariant-loop-dim : goal.invariant-loop-dim
invariant-loop-dim l = l.news.items ≡ l.initial.news.items ++ map (dim_at l.dims) (take l.dim-index l.rest)
