use Rattle.std.proofs.Common.{rules, ◌≡◌, true, false, refl, sym, ap, subst, ◌∙◌}
use Rattle.indexmap.specs.IndexMap.{get_by_text}
use Rattle.session_runs.specs.Session.{session_with}
use Rattle.session_runs.proofs.StepLaws.{session_next}
use Rattle.session_runs.proofs.session.Session.step.Goals as goal

pub returns-clause-run : goal.returns-clause-run
returns-clause-run g c = λ lines at on.
    session_next c.args.around.now.book.now _ _ lines c.args.line _ c.answered-body.result c.requires.going c.answered-body.ensures.passed c.answered-body.ensures.told (search rules) c.is_memory-self.ensures.is c.is_memory-self.ensures.no
    (λ going. c.answered-body.ensures.on (λ wants. let clash : true ≡ false = sym (c.is_memory-self.ensures.no wants) ∙ going in let no_such : ⊥ = cc in no_such)) c.answered-body.ensures.failures c.answered-body.ensures.caused at on

pub returns-clause-on : goal.returns-clause-on
returns-clause-on g c = λ going. c.answered-body.ensures.on (λ wants. let clash : true ≡ false = sym (c.is_memory-self.ensures.no wants) ∙ going in let no_such : ⊥ = cc in no_such)

pub returns-clause-failures : goal.returns-clause-failures
returns-clause-failures g c = (c.answered-body.result, (search rules), c.answered-body.ensures.failures)
