use Rattle.std.specs.Prelude.{◌≡◌, ◌≤ℤ◌, pos, drop, map, unsigned_abs}
use Rattle.std.specs.List.{All}
use Rattle.transform_composition.specs.Values.{value_at}
use Rattle.stack_driver.specs.Targets.{in_shape}
use Rattle.stack_driver.proofs.Shapes.{behind}
use Rattle.stack_driver.proofs.targeting.index_in.Given as goal

abbrev pub invariant-loop-dim : goal.invariant-loop-dim
invariant-loop-dim l =
    (in_shape 0 (value_at l.transform l.index) l.shape ≡ behind (map unsigned_abs l.numbers.items) (in_shape l.dim (drop l.dim (value_at l.transform l.index)) (drop l.dim l.shape)))
    × All (λ x. pos 0 ≤ℤ x) l.numbers.items
