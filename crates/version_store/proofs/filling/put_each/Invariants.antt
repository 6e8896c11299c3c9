use Rattle.std.proofs.Common.{◌≡◌, ◌≤◌, take}
use Rattle.chunk_versions.specs.Moments.{newest}
use Rattle.version_store.specs.Putting.{AreOver}
use Rattle.version_store.proofs.filling.put_each.Given as goal

-- the words so far are put
abbrev pub invariant-loop-i : goal.invariant-loop-i
invariant-loop-i l = record {
  size : l.chunk.size ≡ l.initial.chunk.size;
  newest : newest l.chunk.touches ≤ l.number;
  over : AreOver l.number (take l.i l.words) l.initial.chunk l.chunk;
}
