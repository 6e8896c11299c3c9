use Rattle.std.proofs.Common.{◌∙◌, ℕ, Option, length, sym, subst}
use Rattle.std.proofs.lemmas.Result.{IfOk-weaker}
use Rattle.open_fits.specs.OneAnswer.{IsFailedBehind, IsWritten}
use Rattle.transcript_fits.specs.Judges.{history_of}
use Rattle.transcript_fits.specs.LineFits.{answer_of_line, window_of_line}
use Rattle.transcript_fits.proofs.FitLaws.{fit_same, not_so}
use Rattle.transcript_fits.proofs.ChangeLaws.{write_failed_fits, write_unfit, written_fits, failed_low}
use Rattle.transcript_fits.proofs.changing.fit_write.Goals as goal

pub returns-then-written-clause-fits : goal.returns-then-written-clause-fits
returns-then-written-clause-fits c = λ t words count sites.
    let line = c.args.line in
    let d = answer_of_line line in
    let told = (c.in_ok-written.ensures line.line d c.requires.line.text (c.requires.line.numbers.done ∙ sym c.items-done.ensures)).0 c.if-written.true in
    written_fits (history_of c.args.judge.now) line.owner (window_of_line line) t line.line line.text.now d c.args.view.now words (subst (λ n. IsWritten n line.line line.text.now d) (sym count) told)

pub fit_failed_write-requires-clause-number : goal.fit_failed_write-requires-clause-number
fit_failed_write-requires-clause-number c =
    let line = c.args.line in
    failed_low (history_of c.args.judge.now) line c.in-Some.number c.requires.line
    (subst (λ (o : Option ℕ). IsFailedBehind o line.line line.text.now (answer_of_line line)) c.in-Some.is (c.in_ok-behind.ensures line.line (answer_of_line line) c.requires.line.text c.requires.line.numbers.failed))

pub returns-in-Some-clause-fits : goal.returns-in-Some-clause-fits
returns-in-Some-clause-fits c =
    let line = c.args.line in
    let h = history_of c.args.judge.now in
    let d = answer_of_line line in
    let failed = subst (λ (o : Option ℕ). IsFailedBehind o line.line line.text.now d) c.in-Some.is (c.in_ok-behind.ensures line.line d c.requires.line.text c.requires.line.numbers.failed) in
    IfOk-weaker c.fit_failed_write.result _ _
    (λ fit may t words count sites.
    let never = λ (told : IsWritten (length words) line.line line.text.now d).
    not_so c.in_ok-written.written c.if-written.false
    ((c.in_ok-written.ensures line.line d c.requires.line.text (c.requires.line.numbers.done ∙ sym c.items-done.ensures)).1 (subst (λ n. IsWritten n line.line line.text.now d) count told)) in
    fit_same h _ _ fit (write_failed_fits h line.owner (window_of_line line) t line.line line.text.now d c.args.view.now words c.in-Some.number never failed) (may line.line words sites))
    c.fit_failed_write.ensures.fits

pub returns-in-None-clause-fits : goal.returns-in-None-clause-fits
returns-in-None-clause-fits c = λ t words count sites.
    let line = c.args.line in
    let h = history_of c.args.judge.now in
    let d = answer_of_line line in
    let failed = subst (λ (o : Option ℕ). IsFailedBehind o line.line line.text.now d) c.in-None.is (c.in_ok-behind.ensures line.line d c.requires.line.text c.requires.line.numbers.failed) in
    let never = λ (told : IsWritten (length words) line.line line.text.now d).
    not_so c.in_ok-written.written c.if-written.false
    ((c.in_ok-written.ensures line.line d c.requires.line.text (c.requires.line.numbers.done ∙ sym c.items-done.ensures)).1 (subst (λ n. IsWritten n line.line line.text.now d) count told)) in
    write_unfit h line.owner (window_of_line line) t line.line line.text.now d c.args.view.now words never failed
