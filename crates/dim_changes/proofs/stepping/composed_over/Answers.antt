use Rattle.std.proofs.Common.{ap, sym, subst}
use Rattle.transform_composition.specs.Composing.{composed}
use Rattle.dim_changes.specs.Causes.{or_cause, IsFaultOf}
use Rattle.dim_changes.specs.declared.cause.Fault.{Fault}
use Rattle.dim_changes.proofs.StepLemmas.{Follows-Agrees, IsFaultOf-refused}
use Rattle.dim_changes.proofs.ReachedLaws.{ReachesInto-composed}
use Rattle.dim_changes.proofs.stepping.composed_over.Goals as goal

pub returns-in-Ok-clause-given : goal.returns-in-Ok-clause-given
returns-in-Ok-clause-given c = (
  ap or_cause c.in-Ok.ensures.ok,
  Follows-Agrees c.in-Ok.t c.args.outer.now c.args.inner.now c.in-Ok.ensures.agrees c.in-Ok.ensures.inside
      (ReachesInto-composed c.args.outer.now c.args.inner.now c.in-Ok.t c.domain.ensures.well_formed c.domain-2.ensures.well_formed c.domain-in-Ok.ensures.well_formed c.in-Ok.ensures.ok),
)

pub returns-in-Err-clause-given : goal.returns-in-Err-clause-given
returns-in-Err-clause-given c =
    subst (λ (f : Fault). IsFaultOf (or_cause (composed c.args.outer.now c.args.inner.now)) f) (sym c.fault_of.ensures)
    (IsFaultOf-refused (composed c.args.outer.now c.args.inner.now) c.in-Err.e c.in-Err.ensures.err)
