use Rattle.std.proofs.Common.{◌≡◌, ◌==◌, map, if◌then◌else◌}
use Rattle.std.specs.List.{range_with_len}
use Rattle.dim_expressions.proofs.arrays.sizes_along.Given as goal

abbrev pub invariant-loop-d : goal.invariant-loop-d
invariant-loop-d l = l.sizes.items ≡ map (λ d. if d == l.dim then l.len else 1) (range_with_len 0 l.d)
