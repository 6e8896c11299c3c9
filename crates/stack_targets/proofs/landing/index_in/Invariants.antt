use Rattle.std.proofs.Common.{◌≡◌, ◌++◌, ℕ, List, drop}
use Rattle.index_transform.specs.Values.{value_at}
use Rattle.stack_driver.specs.Targets.{in_shape}
use Rattle.stack_targets.proofs.Shapes.{behind}
use Rattle.stack_targets.proofs.landing.index_in.Given as goal

-- the indices of the first dimensions stand behind the numbers that were there
abbrev pub invariant-loop-dim : goal.invariant-loop-dim
invariant-loop-dim l =
    (front : List ℕ) × (l.numbers.items ≡ l.initial.numbers.items ++ front)
    × (in_shape 0 (value_at l.transform l.index) l.shape ≡ behind front (in_shape l.dim (drop l.dim (value_at l.transform l.index)) (drop l.dim l.shape)))
