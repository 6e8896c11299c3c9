use Rattle.std.proofs.Common.{◌≡◌}
use Rattle.cells.specs.declared.dtype.Dtype.TheVariants.{U8}
use Rattle.state_cases.proofs.laying.put_all.Given as goal

abbrev pub invariant-loop-place : goal.invariant-loop-place
invariant-loop-place l = (l.cells.dtype ≡ U8) × (l.cells.shape ≡ l.fn.cells.shape)
