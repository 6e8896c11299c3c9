use Rattle.std.proofs.Common.{◌≡◌, ◌<◌, ℕ, get_or, length}
use Rattle.n5_blocks.specs.Block.{cut_sizes}
use Rattle.n5_blocks.proofs.chunk.cut_sizes.Given as goal

abbrev pub invariant-loop-k : goal.invariant-loop-k
invariant-loop-k l = record {
  so_far : length l.sizes.items ≡ l.k;
  same : (j : ℕ) → j < l.k → get_or l.sizes.items j 0 ≡ get_or (cut_sizes l.block l.dimensions l.chunk) j 0;
}
