use Rattle.std.proofs.Common.{◌≡◌, map}
use Rattle.std.specs.List.{range_with_len}
use Rattle.dim_expressions.specs.Left.{left_map}
use Rattle.dim_expressions.specs.At.{at_map}
use Rattle.dim_expressions.proofs.at.at_maps.Given as goal

abbrev pub invariant-loop-dim : goal.invariant-loop-dim
invariant-loop-dim l = l.maps.items ≡ map (left_map l.selected l.rest 0 (at_map l.by)) (range_with_len 0 l.dim)
