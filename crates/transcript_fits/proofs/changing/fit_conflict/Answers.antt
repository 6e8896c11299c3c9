use Rattle.std.proofs.Common.{◌≡◌, ◌∙◌, Option, sym, subst}
use Rattle.std.proofs.lemmas.Result.{IfOk-weaker}
use Rattle.serde_json.specs.Data.{Data}
use Rattle.serde_json.specs.View.{view as data_in}
use Rattle.open_fits.specs.AnswerLines.{IsAnswerText}
use Rattle.open_fits.specs.Conflicts.{TellsConflict}
use Rattle.open_fits.specs.declared.Conflict.{Conflict}
use Rattle.transcript_fits.specs.Judges.{history_of}
use Rattle.transcript_fits.specs.LineFits.{answer_of_line}
use Rattle.transcript_fits.proofs.ChangeLaws.{conflict_same, never_conflict}
use Rattle.transcript_fits.proofs.FitLaws.{fit_same}
use Rattle.transcript_fits.proofs.changing.fit_conflict.Goals as goal

pub returns-in-Some-clause-fits : goal.returns-in-Some-clause-fits
returns-in-Some-clause-fits c =
    let line = c.args.line in
    let h = history_of c.args.judge.now in
    let same : data_in c.value-answer.result.now ≡ answer_of_line line = c.value-answer.ensures ∙ c.in_ok-read.ensures in
    let tells = subst (λ (p : Data × Option Conflict). TellsConflict line.line line.text.now p.0 p.1) (λ i. (same i, c.in-Some.is i)) (c.in_ok-told.ensures line.line (subst (IsAnswerText line.line line.text.now) (sym same) c.requires.line.text)) in
    IfOk-weaker c.fit_told.result _ _ (λ fit may upto t ops own mode. fit_same h _ _ fit (conflict_same h line.owner t line.line line.text.now (answer_of_line line) c.in-Some.conflict tells) (may upto t ops own mode)) c.fit_told.ensures.fits

pub returns-clause-fits : goal.returns-clause-fits
returns-clause-fits c = λ upto t ops own mode.
    let line = c.args.line in
    let same : data_in c.value-answer.result.now ≡ answer_of_line line = c.value-answer.ensures ∙ c.in_ok-read.ensures in
    let tells = subst (λ (p : Data × Option Conflict). TellsConflict line.line line.text.now p.0 p.1) (λ i. (same i, c.in-None.is i)) (c.in_ok-told.ensures line.line (subst (IsAnswerText line.line line.text.now) (sym same) c.requires.line.text)) in
    never_conflict (history_of c.args.judge.now) line.owner t line.line line.text.now (answer_of_line line) tells
