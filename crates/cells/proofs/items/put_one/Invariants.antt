use Rattle.std.proofs.Common.{◌≡◌}
use Rattle.cells.specs.Runs.{pairs_of, first_pairs, pairs_put, pairs_taken}
use Rattle.cells.specs.Items.{words_in}
use Rattle.cells.proofs.items.put_one.Given as goal

abbrev pub invariant-loop-k : goal.invariant-loop-k
invariant-loop-k l = words_in l.dtype l.cells l.bytes ≡ pairs_put (pairs_of (first_pairs l.run l.k)) l.words (words_in l.dtype l.cells l.initial.bytes)
