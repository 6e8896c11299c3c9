use Rattle.std.proofs.Common.{◌≡◌, map}
use Rattle.std.specs.List.{range_with_len}
use Rattle.dim_expressions.specs.Oindex.{indexed_dim}
use Rattle.dim_expressions.proofs.oindex.indexed_dims.Given as goal

abbrev pub invariant-loop-dim : goal.invariant-loop-dim
invariant-loop-dim l = l.news.items ≡ map (indexed_dim l.dims l.selected l.arrays) (range_with_len 0 l.dim)
