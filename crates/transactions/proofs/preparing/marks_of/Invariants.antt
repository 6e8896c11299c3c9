use Rattle.std.proofs.Common.{◌≡◌, ◌++◌, drop, map}
use Rattle.transactions.specs.Marking.{mark_of_kept}
use Rattle.transactions.proofs.preparing.marks_of.Given as goal

-- the marks so far, and those of the chunks that are left
abbrev pub invariant-loop-k : goal.invariant-loop-k
invariant-loop-k l = l.marks.items ++ map mark_of_kept (drop l.k-index l.kept) ≡ map mark_of_kept l.kept
