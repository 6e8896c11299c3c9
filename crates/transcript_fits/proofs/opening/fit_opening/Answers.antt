use Rattle.std.proofs.Common.{◌≡◌, ◌∙◌, List, [], Option, Ok, ℕ, get_or, sym, ap, subst}
use Rattle.history.specs.Acts.{opens}
use Rattle.index_transform.proofs.Laws.{get_or-inside}
use Rattle.open_fits.specs.Openings.{build_of, leaves_of}
use Rattle.open_fits.specs.Fits.{IsAnsweredBy}
use Rattle.open_fits.specs.Opens.{IsOpenLine, IsJudged, window_told}
use Rattle.serde_json.specs.Data.{Data}
use Rattle.serde_json.specs.View.{view as data_in}
use Rattle.stated_history.specs.Walks.{takings_at}
use Rattle.transcript_fits.specs.Judges.{history_of}
use Rattle.transcript_fits.specs.LineFits.{IsAnsweredSo, answer_of_line}
use Rattle.transcript_fits.specs.Openings.{AreJudgedAlike}
use Rattle.transcript_fits.proofs.OpenLaws.{alike_asked, alike_fits, alike_opening, open_line_of, told_so}
use Rattle.transcript_fits.proofs.opening.fit_opening.Goals as goal

pub fit_open-requires : goal.fit_open-requires
fit_open-requires c =
    let j = c.args.judge.now in
    let same : takings_at j.source.now c.args.place ≡ c.items-takings.result.now =
    get_or-inside j.source.now.openings.now.takings c.args.place [] c.index-items-place.result c.requires.place
    ∙ ap (λ (ts : List (List (Option ℕ))). get_or ts c.args.place c.index-items-place.result) (sym c.items.ensures)
    ∙ sym c.index-items-place.is
    ∙ sym c.items-takings.ensures in
    let read : data_in c.value-answer.result.now ≡ answer_of_line c.args.line = c.value-answer.ensures ∙ c.in_ok-read.ensures in
    subst (λ (p : List (Option ℕ) × Data). IsOpenLine c.args.plan p.0 j.source.now.openings.now c.in_ok-told.told p.1) (λ i. (same i, sym read i))
    (open_line_of j c.args.line c.args.place c.args.plan c.args.name c.in_ok-told.told c.requires.judge c.requires.line c.requires.opening c.in_ok-told.ensures)

pub returns-clause-fits : goal.returns-clause-fits
returns-clause-fits c = λ t.
    let h = history_of c.args.judge.now in
    let line = c.args.line in
    let read : data_in c.value-answer.result.now ≡ answer_of_line line = c.value-answer.ensures ∙ c.in_ok-read.ensures in
    alike_fits h (IsAnsweredSo h line t (Ok (opens c.args.name (leaves_of c.args.plan) (build_of c.args.plan)))) c.args.name line c.in_ok-told.told c.in_ok-fit.fit c.opening_fit.result c.opened_is_unrefused.ensures c.requires.line.text c.in_ok-told.ensures c.in_ok-fit.ensures.same
    (subst (λ d. AreJudgedAlike d c.in_ok-fit.fit c.opening_fit.result) read c.opening_fit.ensures)
    (told_so h t line c.args.name c.in_ok-told.told (leaves_of c.args.plan) (build_of c.args.plan) c.in_ok-fit.fit c.in_ok-told.ensures
    (subst (λ d. IsJudged h (IsAnsweredBy h line.owner (window_told c.in_ok-told.told) t c.in_ok-told.told.line (Ok (opens c.in_ok-told.told.name (leaves_of c.args.plan) (build_of c.args.plan))) c.in_ok-told.told.text d) c.in_ok-fit.fit) read
    (c.in_ok-fit.ensures.fits h c.requires.judge.outlined line.owner t)))

pub returns-clause-asked : goal.returns-clause-asked
returns-clause-asked c =
    alike_asked (history_of c.args.judge.now) c.args.judge.now.source.now.openings.now.events (data_in c.value-answer.result.now) c.in_ok-fit.fit c.opening_fit.result c.requires.judge.outlined c.opening_fit.ensures c.in_ok-fit.ensures.asked

pub returns-clause-opening : goal.returns-clause-opening
returns-clause-opening c =
    alike_opening (answer_of_line c.args.line) c.in_ok-fit.fit c.opening_fit.result (subst (λ d. AreJudgedAlike d c.in_ok-fit.fit c.opening_fit.result) (c.value-answer.ensures ∙ c.in_ok-read.ensures) c.opening_fit.ensures)
