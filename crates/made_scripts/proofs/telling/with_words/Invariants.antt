use Rattle.std.proofs.Common.{◌≡◌, take}
use Rattle.std.specs.Prelude.{map}
use Rattle.cells.specs.Numbers.{number_of}
use Rattle.made_scripts.specs.Summary.{added}
use Rattle.made_scripts.proofs.telling.with_words.Given as goal

abbrev pub invariant-loop-word : goal.invariant-loop-word
invariant-loop-word l = l.sum ≡ added l.start (map (number_of l.dtype) (take l.word-index l.words))
