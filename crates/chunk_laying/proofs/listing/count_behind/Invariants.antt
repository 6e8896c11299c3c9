use Rattle.std.proofs.Common.{ℕ, suc, ◌<◌, ◌≤◌, length, drop}
use Rattle.std.specs.Prelude.{slice_index_or}
use Rattle.chunk_laying.specs.declared.counting.Counts.{Counts}
use Rattle.chunk_laying.specs.Behind.{IsCounted}
use Rattle.chunk_laying.proofs.listing.count_behind.Given as goal

-- both counts of the dimensions that are done, and what stands for each of these
abbrev pub invariant-loop-k : goal.invariant-loop-k
invariant-loop-k l = record {
  counted : IsCounted (drop l.k l.chunk_shape) (drop l.k l.old) (drop l.k l.new) l.all l.cut;
  done : (j : ℕ) (d : Counts) → l.k ≤ j → j < length l.chunk_shape
      → IsCounted (drop (suc j) l.chunk_shape) (drop (suc j) l.old) (drop (suc j) l.new) (slice_index_or l.behind j d).all (slice_index_or l.behind j d).cut;
}
