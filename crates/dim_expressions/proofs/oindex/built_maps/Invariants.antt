use Rattle.std.proofs.Common.{◌≡◌, map}
use Rattle.std.specs.List.{range_with_len}
use Rattle.dim_expressions.specs.Oindex.{built_map}
use Rattle.dim_expressions.proofs.oindex.built_maps.Given as goal

abbrev pub invariant-loop-dim : goal.invariant-loop-dim
invariant-loop-dim l = l.maps.items ≡ map (built_map l.rank l.selected l.arrays) (range_with_len 0 l.dim)
