-- The view is what the pairs so far make of it.
use Rattle.std.proofs.Common.{◌≡◌, ℕ, length}
use Rattle.cells.specs.Runs.{pairs_of, first_pairs}
use Rattle.rebase_writes.specs.Marks.{marks_of}
use Rattle.rebase_writes.specs.Runs.{pairs_shown}
use Rattle.rebase_writes.specs.Staged.{staged_cells}
use Rattle.rebase_writes.proofs.run.show_run.Given as goal

abbrev pub invariant-loop-pair : goal.invariant-loop-pair
invariant-loop-pair l = (count : ℕ) → length l.staged ≡ count
    → l.out ≡ pairs_shown (pairs_of (first_pairs l.run l.pair)) (staged_cells (marks_of count l.marks) l.staged) l.initial.out
