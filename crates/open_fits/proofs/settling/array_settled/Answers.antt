use Rattle.std.proofs.Common.{sym, subst}
use Rattle.std.proofs.lemmas.Result.{IfOk-weaker}
use Rattle.read_fits.specs.Asked.{wanted_leaf}
use Rattle.read_fits.specs.OpenedViews.{IsGivenAt}
use Rattle.open_fits.specs.Opens.{IsSmall}
use Rattle.open_fits.specs.Settling.{IsArrayFor, MayBeNamedBy, IsNamedBy}
use Rattle.open_fits.proofs.Named.{named_given, for_given}
use Rattle.open_fits.proofs.settling.array_settled.Goals as goal

pub array_given-requires : goal.array_given-requires
array_given-requires c =
    let events = c.args.openings.now.events in
    let small = subst IsSmall c.in-Given.is c.requires.small in
    let gives = subst (λ w. IsGivenAt events (wanted_leaf w) c.args.taking) c.in-Given.is c.requires.given in
    subst (λ h. MayBeNamedBy h c.args.taking) (sym c.items.ensures) (named_given events _ c.args.taking small gives)

pub returns-in-Given : goal.returns-in-Given
returns-in-Given c =
    let events = c.args.openings.now.events in
    let gives = subst (λ w. IsGivenAt events (wanted_leaf w) c.args.taking) c.in-Given.is c.requires.given in
    IfOk-weaker c.array_given.result _ (IsArrayFor events c.args.upto c.args.wanted.now c.args.taking)
    (λ array named. subst (λ w. IsArrayFor events c.args.upto w c.args.taking array) (sym c.in-Given.is)
    (for_given events c.args.openings.now.opened c.args.openings.now.places c.requires.openings c.args.upto _ c.args.taking array gives (subst (λ h. IsNamedBy h c.args.taking array) c.items.ensures named)))
    c.array_given.ensures

pub array_stored-requires-clause-given : goal.array_stored-requires-clause-given
array_stored-requires-clause-given c = subst (λ w. IsGivenAt c.args.openings.now.events (wanted_leaf w) c.args.taking) c.in-Stored.is c.requires.given

pub returns-in-Stored : goal.returns-in-Stored
returns-in-Stored c =
    IfOk-weaker c.array_stored.result _ (IsArrayFor c.args.openings.now.events c.args.upto c.args.wanted.now c.args.taking)
    (λ array is. subst (λ w. IsArrayFor c.args.openings.now.events c.args.upto w c.args.taking array) (sym c.in-Stored.is) is) c.array_stored.ensures
