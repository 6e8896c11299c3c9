use Rattle.std.proofs.Common.{◌≡◌, ◌++◌, [], map, take}
use Rattle.cells.specs.Runs.{pairs_of}
use Rattle.transaction_cells.specs.StagedWords.{word_of_pair}
use Rattle.transaction_cells.proofs.staged_words.add_none.Given as goal

-- the pairs so far
abbrev pub invariant-loop-k : goal.invariant-loop-k
invariant-loop-k l = l.words.items ≡ l.initial.words.items ++ map (word_of_pair []) (take l.k (pairs_of l.fn.run))
