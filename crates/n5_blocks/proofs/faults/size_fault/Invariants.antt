use Rattle.std.proofs.Common.{◌≡◌, drop}
use Rattle.n5_blocks.specs.Faults.{size_fault}
use Rattle.n5_blocks.proofs.faults.size_fault.Given as goal

abbrev pub invariant-loop-dim : goal.invariant-loop-dim
invariant-loop-dim l = size_fault 0 l.block l.sizes ≡ size_fault l.dim (drop l.dim l.block) (drop l.dim l.sizes)
