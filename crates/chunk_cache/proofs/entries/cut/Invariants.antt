-- What fits of the entries stays the same, and the cells are counted.
use Rattle.std.proofs.Common.{◌≡◌, length}
use Rattle.chunk_cache.specs.Cache.{cells_of, fitting, most_chunks}
use Rattle.chunk_cache.specs.Kept.{entries_of}
use Rattle.chunk_cache.proofs.entries.cut.Given as goal

abbrev pub invariant-loop-left : goal.invariant-loop-left
invariant-loop-left l = record {
  same : fitting l.limit most_chunks (entries_of l.entries.entries) ≡ fitting l.limit most_chunks (entries_of l.initial.entries.entries);
  counted : l.left ≡ cells_of (entries_of l.entries.entries);
  capacity : l.entries.cap ≡ l.initial.entries.cap;
}

abbrev pub decreases-loop-left : goal.decreases-loop-left
decreases-loop-left l = length l.entries.entries
