use Rattle.std.proofs.Common.{◌≡◌, [], sym, ap, subst, ◌∙◌}
use Rattle.std.proofs.lemmas.Result.{IfOk-weaker}
use Rattle.line_acts.specs.Openings.{leaf_of}
use Rattle.stated_arrays.specs.Outcomes.{IsOpenedAt}
use Rattle.stated_arrays.specs.Takings.{taking, ref_of_leaf}
use Rattle.stated_arrays.specs.OpenedViews.{IsGivenAt}
use Rattle.stated_acts.proofs.ReferenceLaws.{reference_taken, taken_named}
use Rattle.stated_acts.proofs.opened_views.array_of.Goals as goal

pub given-requires : goal.given-requires
given-requires c =
    let h = c.args.openings.now.events in
    let at = subst (IsGivenAt h (leaf_of [] c.args.leaf.now)) c.in-Some.is c.requires.given in
    (at.0, subst (λ g. IsOpenedAt g c.in-Some.number at.0) (sym c.items.ensures) at.2, reference_taken h c.requires.openings.legal c.args.leaf.now c.requires.leaf c.in-Some.number at)

pub returns-in-Some : goal.returns-in-Some
returns-in-Some c =
    let h = c.args.openings.now.events in
    let leaf = leaf_of [] c.args.leaf.now in
    let at = subst (IsGivenAt h leaf) c.in-Some.is c.requires.given in
    IfOk-weaker c.given.result _ (λ array. ref_of_leaf h (taking leaf c.args.taking) ≡ array)
    (λ array each. ap (λ n. ref_of_leaf h (taking leaf n)) c.in-Some.is ∙ taken_named h c.args.leaf.now c.in-Some.number at
    ∙ each at.0 (subst (λ g. IsOpenedAt g c.in-Some.number at.0) (sym c.items.ensures) at.2)) c.given.ensures

pub returns-in-None : goal.returns-in-None
returns-in-None c =
    let h = c.args.openings.now.events in
    let leaf = leaf_of [] c.args.leaf.now in
    IfOk-weaker c.lying.result _ (λ array. ref_of_leaf h (taking leaf c.args.taking) ≡ array)
    (λ array is. ap (λ n. ref_of_leaf h (taking leaf n)) c.in-None.is ∙ is) c.lying.ensures
