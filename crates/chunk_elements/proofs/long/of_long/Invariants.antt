use Rattle.std.proofs.Common.{◌≡◌, ◌++◌, drop}
use Rattle.chunk_elements.specs.Rows.{of_long}
use Rattle.chunk_elements.proofs.long.of_long.Given as goal

abbrev pub invariant-loop-k : goal.invariant-loop-k
invariant-loop-k l = l.kept.items ++ of_long (drop l.k l.numbers) (drop l.k l.block) (drop l.k l.sizes) ≡ of_long l.numbers l.block l.sizes
