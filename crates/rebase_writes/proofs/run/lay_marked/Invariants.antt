-- Words before the place are laid over, from it on they are the chunk's.
use Rattle.std.proofs.Common.{◌≡◌, ◌≤◌, ◌-◌, length}
use Rattle.rebase_writes.specs.Marks.{marks_of}
use Rattle.rebase_writes.proofs.StagedLaws.{IsLaidUpTo}
use Rattle.rebase_writes.proofs.run.lay_marked.Given as goal

abbrev pub invariant-loop-place : goal.invariant-loop-place
invariant-loop-place l = record {
  bound : l.place ≤ length l.staged;
  kept : l.chunk ≡ record l.initial.chunk { words = l.chunk.words };
  size : length l.chunk.words ≡ length l.initial.chunk.words;
  laid : IsLaidUpTo (marks_of (length l.staged) l.marks) l.staged l.initial.chunk.words l.chunk.words l.place;
}

abbrev pub decreases-loop-place : goal.decreases-loop-place
decreases-loop-place l = length l.staged - l.place
