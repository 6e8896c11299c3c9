-- The clauses but the value are laws of what comes out.
use Rattle.std.proofs.Common.{sym, ◌∙◌, subst, arith}
use Rattle.cast_driver.specs.Chain.{AreJoined}
use Rattle.cast_driver.proofs.ChainLaws.{word_out-done, IsWord-word_out, IsCongruent-word_out}
use Rattle.cast_driver.proofs.chain.Chain.out.Goals as goal

pub returns-clause-value : goal.returns-clause-value
returns-clause-value c = sym (word_out-done _ c.loop-cast.cast-index c.loop-cast.shown (omega arith)) ∙ c.loop-cast.invariant

pub returns-clause-word : goal.returns-clause-word
returns-clause-word c = rw (returns-clause-value c) (λ base is. IsWord-word_out c.args.self.now base c.args.word is)

pub returns-clause-congruent : goal.returns-clause-congruent
returns-clause-congruent c = rw (returns-clause-value c) (λ base begins. IsCongruent-word_out c.args.self.now base c.args.word (subst AreJoined c.self.view_is c.self.invariant) begins)
