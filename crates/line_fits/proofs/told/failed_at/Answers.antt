use Rattle.std.proofs.Common.{◌≡◌, ◌∙◌, ◌+◌, ◌-◌, [], None, ap, sym, arith}
use Rattle.transcript_cut.specs.Answers.{answer_data}
use Rattle.transcript_cut.specs.Text.{answer_text}
use Rattle.history.specs.Answers as old
use Rattle.transcript_cut.specs.Fitting.{printed_at}
use Rattle.line_fits.proofs.OneAnswer.{failure_is}
use Rattle.line_fits.proofs.told.failed_at.Goals as goal

pub returns-then-event-eq0 : goal.returns-then-event-eq0
returns-then-event-eq0 c = λ number d told printed n is.
    let zero_is = c.if-event-eq0.true in
    let same = failure_is c.args.event n c.args.line c.args.text.now d printed is in
    omega (arith, zero_is, same)

pub returns-then-not-branch : goal.returns-then-not-branch
returns-then-not-branch c = λ number d told printed n is.
    let same = failure_is c.args.event n c.args.line c.args.text.now d printed is in
    let tests = c.in_ok-is_told_failed.ensures number d told in
    let so = tests.1 (is.printed ∙ ap (λ m. answer_text (printed_at c.args.line (old.store_failed m [] None))) (sym same), is.object ∙ ap (λ m. answer_data (printed_at c.args.line (old.store_failed m [] None))) (sym same)) in
    let isnt = c.if-not-branch.true in
    cc

pub returns : goal.returns
returns c = λ number d told printed.
    let some = c.if-event-eq0.false in
    let both = (c.in_ok-is_told_failed.ensures number d told).0 c.if-not-branch.false in
    let same : c.args.event ≡ (c.args.event - 1) + 1 = omega (arith, some) in
    record {
      printed = both.0 ∙ ap (λ m. answer_text (printed_at c.args.line (old.store_failed m [] None))) same;
      object = both.1 ∙ ap (λ m. answer_data (printed_at c.args.line (old.store_failed m [] None))) same;
    }
