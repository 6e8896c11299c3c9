use Rattle.std.proofs.Common.{◌≡◌, take}
use Rattle.chunk_grid.specs.Slots.{chunk_counts}
use Rattle.chunk_grid.proofs.rows.chunk_counts.Given as goal

-- the counts so far
abbrev pub invariant-loop-d : goal.invariant-loop-d
invariant-loop-d l = l.counts.items ≡ take l.d (chunk_counts l.shape l.chunk)
