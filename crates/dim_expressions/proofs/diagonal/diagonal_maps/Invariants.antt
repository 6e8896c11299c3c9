use Rattle.std.proofs.Common.{◌≡◌, map}
use Rattle.std.specs.List.{range_with_len}
use Rattle.dim_expressions.specs.Left.{left_map}
use Rattle.dim_expressions.specs.Diagonal.{diagonal_map}
use Rattle.dim_expressions.proofs.diagonal.diagonal_maps.Given as goal

abbrev pub invariant-loop-dim : goal.invariant-loop-dim
invariant-loop-dim l = l.maps.items ≡ map (left_map l.selected l.rest 1 diagonal_map) (range_with_len 0 l.dim)
