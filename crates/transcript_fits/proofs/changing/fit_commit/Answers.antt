use Rattle.std.proofs.Common.{◌∙◌, ℕ, Option, sym, subst, refl}
use Rattle.std.proofs.lemmas.Result.{IfOk-weaker}
use Rattle.open_fits.specs.OneAnswer.{IsCommitted, IsFailedBehind}
use Rattle.stated_history.specs.Standings.{transaction_of}
use Rattle.transcript_fits.specs.Judges.{history_of}
use Rattle.transcript_fits.specs.LineFits.{answer_of_line, window_of_line}
use Rattle.transcript_fits.proofs.FitLaws.{fit_same, not_so}
use Rattle.transcript_fits.proofs.ChangeLaws.{commit_conflict_fits, commit_failed_fits, committed_fits, failed_low}
use Rattle.transcript_fits.proofs.changing.fit_commit.Goals as goal

pub returns-then-committed-clause-fits : goal.returns-then-committed-clause-fits
returns-then-committed-clause-fits c = λ t.
    let line = c.args.line in
    let d = answer_of_line line in
    let told = (c.in_ok-committed.ensures line.line d c.requires.line.text (c.requires.line.numbers.done ∙ sym c.items-done.ensures)).0 c.if-committed.true in
    committed_fits (history_of c.args.judge.now) line.owner (window_of_line line) t line.line line.text.now d (transaction_of c.args.transaction.now) told

pub fit_failed_commit-requires-clause-number : goal.fit_failed_commit-requires-clause-number
fit_failed_commit-requires-clause-number c =
    let line = c.args.line in
    failed_low (history_of c.args.judge.now) line c.in-Some.number c.requires.line
    (subst (λ (o : Option ℕ). IsFailedBehind o line.line line.text.now (answer_of_line line)) c.in-Some.is (c.in_ok-behind.ensures line.line (answer_of_line line) c.requires.line.text c.requires.line.numbers.failed))

pub returns-in-Some-clause-fits : goal.returns-in-Some-clause-fits
returns-in-Some-clause-fits c =
    let line = c.args.line in
    let h = history_of c.args.judge.now in
    let d = answer_of_line line in
    let u = transaction_of c.args.transaction.now in
    let failed = subst (λ (o : Option ℕ). IsFailedBehind o line.line line.text.now d) c.in-Some.is (c.in_ok-behind.ensures line.line d c.requires.line.text c.requires.line.numbers.failed) in
    let never : IsCommitted line.line line.text.now d → ⊥ = λ told. not_so c.in_ok-committed.committed c.if-committed.false ((c.in_ok-committed.ensures line.line d c.requires.line.text (c.requires.line.numbers.done ∙ sym c.items-done.ensures)).1 told) in
    IfOk-weaker c.fit_failed_commit.result _ _ (λ fit may t. fit_same h _ _ fit (commit_failed_fits h line.owner (window_of_line line) t line.line line.text.now d u c.in-Some.number never failed) (may u (sym c.as_slice.ensures.value))) c.fit_failed_commit.ensures.fits

pub returns-in-None-clause-fits : goal.returns-in-None-clause-fits
returns-in-None-clause-fits c =
    let line = c.args.line in
    let h = history_of c.args.judge.now in
    let d = answer_of_line line in
    let u = transaction_of c.args.transaction.now in
    let failed = subst (λ (o : Option ℕ). IsFailedBehind o line.line line.text.now d) c.in-None.is (c.in_ok-behind.ensures line.line d c.requires.line.text c.requires.line.numbers.failed) in
    let never : IsCommitted line.line line.text.now d → ⊥ = λ told. not_so c.in_ok-committed.committed c.if-committed.false ((c.in_ok-committed.ensures line.line d c.requires.line.text (c.requires.line.numbers.done ∙ sym c.items-done.ensures)).1 told) in
    IfOk-weaker c.fit_conflict.result _ _
    (λ fit may t. fit_same h _ _ fit (commit_conflict_fits h line.owner (window_of_line line) t line.line line.text.now d u never failed) (may c.requires.own.0 u c.requires.ops c.requires.own.1 refl)) c.fit_conflict.ensures.fits
