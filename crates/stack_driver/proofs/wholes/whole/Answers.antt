use Rattle.std.proofs.Common.{◌≡◌, ◌∙◌, length, sym, ap}
use Rattle.std.proofs.lemmas.List.{length-map}
use Rattle.transform_composition.specs.Transforms.{DomainAndMaps}
use Rattle.transform_composition.specs.Identity.{identity_over}
use Rattle.stack_driver.specs.References.{Reference}
use Rattle.stack_driver.specs.Arrays.{array_dim, array_domain}
use Rattle.stack_driver.proofs.ArrayRules.{leaf_view, length-identity}
use Rattle.stack_driver.proofs.wholes.whole.Goals as goal

pub returns-clause-view : goal.returns-clause-view
returns-clause-view c =
    let r = c.args.array in
    let t = c.in_ok-identity.field-0 in
    let maps : length t.maps ≡ length r.shape =
    ap (λ (u : DomainAndMaps). length u.maps) (c.in_ok-identity.ensures ∙ ap identity_over c.in_ok-domain.ensures.value)
    ∙ length-identity 0 (array_domain r).dims ∙ length-map r.shape (array_dim r.local) in
    let here = c.array.view_is in
    leaf_view _ t (maps ∙ ap (λ (s : Reference). length s.shape) (sym here))
