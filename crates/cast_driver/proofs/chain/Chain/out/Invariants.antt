-- The casts that are left take the word so far to where all take the first one.
use Rattle.std.proofs.Common.{◌≡◌, drop}
use Rattle.cast_driver.specs.Chain.{word_out}
use Rattle.cast_driver.proofs.chain.Chain.out.Given as goal

abbrev pub invariant-loop-cast : goal.invariant-loop-cast
invariant-loop-cast l = word_out (drop l.cast-index l.cast-items) l.shown ≡ word_out l.fn.self l.fn.word
