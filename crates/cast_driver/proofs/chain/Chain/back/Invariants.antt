-- The casts that are left take the word so far to where all take the first one.
use Rattle.std.proofs.Common.{◌≡◌}
use Rattle.cast_driver.specs.Chain.{word_back}
use Rattle.cast_driver.proofs.chain.Chain.back.Given as goal

abbrev pub invariant-loop-cast : goal.invariant-loop-cast
invariant-loop-cast l = word_back l.cast-iterator.iter.rest.now l.kept ≡ word_back l.fn.self l.fn.word
