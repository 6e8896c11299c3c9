use Rattle.std.proofs.Common.{[], sym, subst}
use Rattle.std.proofs.lemmas.Result.{IfOk-weaker}
use Rattle.read_fits.specs.Asked.{leaf_asked}
use Rattle.read_fits.specs.declared.Wanted.TheVariants.{Stored}
use Rattle.history.specs.Lines.{stored}
use Rattle.read_fits.specs.OpenedViews.{IsGivenAt}
use Rattle.open_fits.specs.Settling.{IsArrayFor, MayBeNamed, IsNamedIfMade}
use Rattle.open_fits.proofs.Named.{named_made, for_made, for_found}
use Rattle.open_fits.proofs.settling.array_stored.Goals as goal

pub array_made-requires : goal.array_made-requires
array_made-requires c =
    let o = c.args.openings.now in
    let gives = subst (IsGivenAt o.events (stored [] (leaf_asked c.args.asked.now))) c.in-Some.is c.requires.given in
    subst (λ h. MayBeNamed h c.in-Some.number) (sym c.items.ensures) (named_made o.events o.opened o.places c.requires.openings c.args.upto c.args.asked.now c.in-Some.number gives)

pub returns-in-Some : goal.returns-in-Some
returns-in-Some c =
    let o = c.args.openings.now in
    let gives = subst (IsGivenAt o.events (stored [] (leaf_asked c.args.asked.now))) c.in-Some.is c.requires.given in
    IfOk-weaker c.array_made.result _ (IsArrayFor o.events c.args.upto (Stored c.args.asked.now) c.args.taking)
    (λ array is. subst (λ n. IsArrayFor o.events c.args.upto (Stored c.args.asked.now) n array) (sym c.in-Some.is)
    (for_made o.events o.opened o.places c.requires.openings c.args.upto c.args.asked.now c.in-Some.number array gives (subst (λ h. IsNamedIfMade h c.in-Some.number c.args.asked.now array) c.items.ensures is)))
    c.array_made.ensures

pub returns-in-None : goal.returns-in-None
returns-in-None c =
    let o = c.args.openings.now in
    IfOk-weaker c.array_found.result _ (IsArrayFor o.events c.args.upto (Stored c.args.asked.now) c.args.taking)
    (λ array is. subst (λ n. IsArrayFor o.events c.args.upto (Stored c.args.asked.now) n array) (sym c.in-None.is)
    (for_found o.events o.opened o.places c.requires.openings c.args.upto c.args.asked.now array is)) c.array_found.ensures
