use Rattle.std.proofs.Common.{sym, subst}
use Rattle.std.proofs.lemmas.Result.{IfOk-weaker}
use Rattle.history.specs.Leaves.{nothing}
use Rattle.history.specs.Outcomes.{opening_outcome}
use Rattle.read_fits.specs.Asked.{leaf_asked}
use Rattle.read_fits.specs.Outcomes.{AreKeptOf, IsToldAs}
use Rattle.open_fits.specs.Settling.{IsFoundAs, IsNamedOutcome, IsNamedByOutcome}
use Rattle.open_fits.proofs.Named.{outcome_named, outcome_found}
use Rattle.open_fits.proofs.settling.array_found.Goals as goal

pub outcome_after-requires : goal.outcome_after-requires
outcome_after-requires c =
    let o = c.args.openings.now in
    subst (λ h. AreKeptOf h c.items-opened.result.now o.places) (sym c.items-events.ensures) (subst (λ n. AreKeptOf o.events n o.places) (sym c.items-opened.ensures) c.requires)

pub array_of_outcome-requires : goal.array_of_outcome-requires
array_of_outcome-requires c =
    let o = c.args.openings.now in
    let told = subst (λ h. IsToldAs h c.in-Ok.outcome (opening_outcome h (leaf_asked c.args.asked.now) nothing)) c.items-events.ensures c.in-Ok.ensures in
    subst (λ h. IsNamedOutcome h c.items-opened.result.now c.in-Ok.outcome) (sym c.items-events.ensures)
    (subst (λ n. IsNamedOutcome o.events n c.in-Ok.outcome) (sym c.items-opened.ensures) (outcome_named o.events o.opened o.places c.requires c.args.upto c.args.asked.now c.in-Ok.outcome told))

pub returns-in-Ok : goal.returns-in-Ok
returns-in-Ok c =
    let o = c.args.openings.now in
    let told = subst (λ h. IsToldAs h c.in-Ok.outcome (opening_outcome h (leaf_asked c.args.asked.now) nothing)) c.items-events.ensures c.in-Ok.ensures in
    IfOk-weaker c.array_of_outcome.result _ (IsFoundAs o.events c.args.asked.now c.args.upto)
    (λ array named. outcome_found o.events o.opened o.places c.requires c.args.upto c.args.asked.now c.in-Ok.outcome array told
    (subst (λ h. IsNamedByOutcome h o.opened c.args.upto c.in-Ok.outcome array) c.items-events.ensures (subst (λ n. IsNamedByOutcome c.items-events.result.now n c.args.upto c.in-Ok.outcome array) c.items-opened.ensures named)))
    c.array_of_outcome.ensures
