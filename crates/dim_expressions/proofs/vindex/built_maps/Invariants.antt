use Rattle.std.proofs.Common.{◌≡◌, length, map}
use Rattle.std.specs.List.{range_with_len}
use Rattle.dim_expressions.specs.Left.{left_map}
use Rattle.dim_expressions.specs.Vindex.{built_map}
use Rattle.dim_expressions.proofs.vindex.built_maps.Given as goal

abbrev pub invariant-loop-dim : goal.invariant-loop-dim
invariant-loop-dim l = l.maps.items ≡ map (left_map l.selected l.rest 1 (built_map (length l.rest) l.arrays)) (range_with_len 0 l.dim)
