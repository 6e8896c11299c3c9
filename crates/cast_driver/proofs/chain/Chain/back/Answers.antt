-- One cast back takes the last of the casts that are left; the other clauses are laws of what goes back.
use Rattle.std.proofs.Common.{sym, ◌∙◌, ap, subst}
use Rattle.cast_driver.specs.Chain.{AreJoined, word_back}
use Rattle.cast_driver.proofs.ChainLaws.{word_back-push, word_back-done, IsWord-word_back, IsCongruent-word_back, word_out-word_back}
use Rattle.cast_driver.proofs.chain.Chain.back.Goals as goal

pub loop-cast-preserved : goal.loop-cast-preserved
loop-cast-preserved c =
    ap (word_back c.next.new.self.iter.rest.now) c.back-kept.ensures.value
    ∙ sym (word_back-push c.next.new.self.iter.rest.now c.in-Some.cast.now c.loop-cast.kept)
    ∙ sym (ap (λ casts. word_back casts c.loop-cast.kept) c.in-Some.ensures.steps) ∙ c.loop-cast.invariant

pub returns-clause-value : goal.returns-clause-value
returns-clause-value c = sym (word_back-done _ c.loop-cast.kept c.in-None.ensures.steps.0) ∙ c.loop-cast.invariant

pub returns-clause-word : goal.returns-clause-word
returns-clause-word c = rw (returns-clause-value c) (λ base begins is. IsWord-word_back c.args.self.now base c.args.word begins is)

pub returns-clause-congruent : goal.returns-clause-congruent
returns-clause-congruent c = rw (returns-clause-value c) (λ base begins. IsCongruent-word_back c.args.self.now base c.args.word (subst AreJoined c.self.view_is c.self.invariant) begins)

pub returns-clause-read_again : goal.returns-clause-read_again
returns-clause-read_again c = rw (returns-clause-value c) (λ base begins is wide.
    word_out-word_back c.args.self.now base c.args.word (subst AreJoined c.self.view_is c.self.invariant) begins is wide)
