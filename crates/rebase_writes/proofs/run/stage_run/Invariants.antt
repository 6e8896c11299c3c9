-- The staged cells are what the pairs so far make of them.
use Rattle.std.proofs.Common.{◌≡◌, ℕ, length}
use Rattle.cells.specs.Runs.{pairs_of, first_pairs}
use Rattle.rebase_writes.specs.Marks.{marks_of}
use Rattle.rebase_writes.specs.Runs.{pairs_written}
use Rattle.rebase_writes.specs.Staged.{staged_cells}
use Rattle.rebase_writes.proofs.run.stage_run.Given as goal

abbrev pub invariant-loop-pair : goal.invariant-loop-pair
invariant-loop-pair l = (count : ℕ) → length l.initial.staged ≡ count
    → staged_cells (marks_of count l.marks) l.staged ≡ pairs_written (pairs_of (first_pairs l.run l.pair)) l.words (staged_cells (marks_of count l.initial.marks) l.initial.staged)
