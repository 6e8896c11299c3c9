use Rattle.std.proofs.Common.{◌≡◌, take, length}
use Rattle.n5_blocks.specs.Faults.{sizes_in}
use Rattle.n5_blocks.proofs.faults.sizes_in.Given as goal

abbrev pub invariant-loop-dim : goal.invariant-loop-dim
invariant-loop-dim l = record {
  so_far : take l.dim l.sizes ≡ sizes_in l.dim l.bytes;
  full : length l.sizes ≡ 32;
}
