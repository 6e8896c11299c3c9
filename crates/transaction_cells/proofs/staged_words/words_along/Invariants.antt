use Rattle.std.proofs.Common.{◌≡◌, [], map, take}
use Rattle.std.specs.List.{flat_map}
use Rattle.cells.specs.Runs.{pairs_of}
use Rattle.transaction_cells.specs.StagedWords.{word_of_pair}
use Rattle.transaction_cells.proofs.staged_words.words_along.Given as goal

-- the cells of the runs so far
abbrev pub invariant-loop-i : goal.invariant-loop-i
invariant-loop-i l = l.words.items ≡ map (word_of_pair l.staged) (flat_map pairs_of (take l.i l.runs))
