use Rattle.std.proofs.Common.{sym, subst, ◌∙◌}
use Rattle.history.proofs.Laws.{some_inj}
use Rattle.chunk_plans.specs.Leaving.{IsLeftReady}
use Rattle.chunk_plans.specs.declared.write.Ready.{Ready}
use Rattle.chunk_plans.proofs.planning.prepared.Goals as goal

pub returns-clause-left : goal.returns-clause-left
returns-clause-left c r is = subst (λ (x : Ready). IsLeftReady c.args.form.now x c.left_of.result) (some_inj c.in-Some.ready r (sym c.in-Some.is ∙ is)) c.left_of.ensures
