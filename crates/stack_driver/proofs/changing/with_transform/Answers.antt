use Rattle.std.proofs.Common.{◌∙◌, length, sym, ap, subst}
use Rattle.transform_composition.specs.Transforms.{DomainAndMaps}
use Rattle.transform_composition.specs.Agreeing.{Agrees}
use Rattle.stack_driver.specs.Changes.{HasTargetsOf}
use Rattle.stack_driver.specs.declared.view.View.{View}
use Rattle.stack_driver.specs.Conditions.{IsView}
use Rattle.stack_driver.proofs.Kept.{kept, composed-outputs}
use Rattle.stack_driver.proofs.Moves.{composed_targets}
use Rattle.stack_driver.proofs.changing.with_transform.Goals as goal

pub returns-clause-targets : goal.returns-clause-targets
returns-clause-targets c =
    let t = c.in_ok-transform.transform in
    let inner = c.args.inner.now in
    subst (λ (w : View). HasTargetsOf w c.args.v inner) (sym c.set_transform.ensures.value)
    (composed_targets t c.args.v inner (subst (λ (o : DomainAndMaps). Agrees t o inner) c.transform_of.ensures.value c.in_ok-transform.ensures.agrees))

pub returns-clause-view : goal.returns-clause-view
returns-clause-view c =
    let t = c.in_ok-transform.transform in
    λ h. subst IsView (sym c.set_transform.ensures.value)
    (kept t c.args.v h
    (composed-outputs c.transform_of.result.now c.args.inner.now t c.in_ok-transform.ensures.ok ∙ ap (λ (w : DomainAndMaps). length w.maps) c.transform_of.ensures.value))
