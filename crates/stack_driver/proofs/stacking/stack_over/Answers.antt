use Rattle.std.proofs.Common.{◌≡◌, ◌∙◌, List, length, ap, sym, subst}
use Rattle.transform_composition.specs.Transforms.{DomainAndMaps}
use Rattle.transform_composition.specs.Identity.{identity_over}
use Rattle.stack_driver.specs.Conditions.{IsView}
use Rattle.stack_driver.specs.Stacks.{stacked_domain, HasLastTargets}
use Rattle.stack_driver.specs.declared.view.View.{View}
use Rattle.stack_driver.specs.declared.view.View.TheVariants as view
use Rattle.stack_driver.proofs.ArrayRules.{length-identity}
use Rattle.stack_driver.proofs.Kept.{stack_view}
use Rattle.stack_driver.proofs.StackRules.{layers_alike}
use Rattle.stack_driver.proofs.StackTargets.{last_targets}
use Rattle.stack_driver.proofs.stacking.stack_over.Goals as goal

pub returns-clause-view : goal.returns-clause-view
returns-clause-view c =
    let layers = c.args.layers.items in
    let t = c.in_ok-identity.field-0 in
    let maps : length t.maps ≡ length (stacked_domain layers).dims =
    ap (λ (u : DomainAndMaps). length u.maps) (c.in_ok-identity.ensures ∙ ap identity_over (c.in_ok-domain.ensures.value ∙ ap stacked_domain c.deref.ensures.value))
    ∙ length-identity 0 (stacked_domain layers).dims in
    subst (λ (ls : List View). IsView (view.Stack ls t)) (sym c.wrap.ensures)
    (stack_view layers t c.requires.views (layers_alike layers (length t.maps) c.requires.some c.requires.few c.requires.alike maps))

pub returns-clause-targets : goal.returns-clause-targets
returns-clause-targets c =
    let layers = c.args.layers.items in
    subst (λ v. HasLastTargets v layers) (sym (ap (λ (ls : List View). view.Stack ls c.in_ok-identity.field-0) c.wrap.ensures ∙ ap (view.Stack layers) c.in_ok-identity.ensures)) (last_targets layers c.in_ok-domain.domain)
