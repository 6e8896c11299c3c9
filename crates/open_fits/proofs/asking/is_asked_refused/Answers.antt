use Rattle.std.proofs.Common.{◌≡◌, ◌↔◌, ◌∙◌, length, take, sym, ap, subst, arith}
use Rattle.std.specs.Prelude.{IsTrue}
use Rattle.std.proofs.lemmas.Result.{IfOk-weaker}
use Rattle.history.specs.History.{History}
use Rattle.history.specs.Leaves.{nothing}
use Rattle.history.specs.Outcomes.{opening_outcome}
use Rattle.read_fits.specs.Outline.{outline}
use Rattle.read_fits.specs.Asked.{leaf_asked}
use Rattle.read_fits.specs.Outcomes.{AreKeptOf}
use Rattle.open_fits.specs.Opens.{IsRefusedFor}
use Rattle.open_fits.proofs.AskingLaws.{kept_early}
use Rattle.open_fits.proofs.Outcomes.{outcome_by_outline}
use Rattle.open_fits.proofs.asking.is_asked_refused.Goals as goal

pub first_events-early-requires : goal.first_events-early-requires
first_events-early-requires c =
    let size = ap length c.items-events.ensures in
    let within = c.requires.question.within in
    omega (arith, size, within)

pub outcome_after-requires : goal.outcome_after-requires
outcome_after-requires c =
    let o = c.args.openings.now in
    let m = c.args.question.now.moment in
    let early = c.first_events-early.ensures ∙ ap (take m) c.items-events.ensures in
    subst (λ h. AreKeptOf h c.items-opened.result.now c.args.places.now) (sym early)
    (subst (λ n. AreKeptOf (take m o.events) n c.args.places.now) (sym c.items-opened.ensures) (kept_early o.events o.opened o.places c.args.places.now m c.requires.openings c.requires.table))

pub is_outcome_told-requires-clause-few : goal.is_outcome_told-requires-clause-few
is_outcome_told-requires-clause-few c = c.requires.question.few

pub is_outcome_told-requires-clause-reads : goal.is_outcome_told-requires-clause-reads
is_outcome_told-requires-clause-reads c = c.requires.question.reads

pub returns-in-Ok : goal.returns-in-Ok
returns-in-Ok c =
    let o = c.args.openings.now in
    let q = c.args.question.now in
    let leaf = leaf_asked c.args.asked.now in
    let early = c.first_events-early.ensures ∙ ap (take q.moment) c.items-events.ensures in
    IfOk-weaker c.is_outcome_told.result _ (λ is. (history : History) → outline history ≡ o.events → IsTrue is ↔ IsRefusedFor history q c.args.place c.args.asked.now)
    (λ is told history same. told c.first_events-early.result.now history (opening_outcome c.first_events-early.result.now leaf nothing) c.in-Ok.ensures
    (outcome_by_outline history o.events same q.moment leaf ∙ ap (λ (g : History). opening_outcome g leaf nothing) (sym early))) c.is_outcome_told.ensures
