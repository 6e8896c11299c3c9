-- Whether the answer to a line is one that it may have.
use Rattle.std.specs.Prelude.{◌≡◌, ◌↔◌, Option}
use Rattle.serde_json.specs.Data.{Data}
use Rattle.history.specs.Acts.{Asked}
use Rattle.history.specs.Answers.{Body}
use Rattle.history.specs.Commit.{Transaction}
use Rattle.history.specs.History.{History}
use Rattle.open_fits.specs.Sweeps.{IsMetIn, IsWaitingIn}
use Rattle.open_fits.specs.AnswerLines.{IsAnswerText}
use Rattle.open_fits.specs.Bodies.{body_of}
use Rattle.open_fits.specs.Fits.{IsAnsweredBy}
use Rattle.open_fits.specs.OneAnswer.{HasOneAnswer}
use Rattle.open_fits.specs.Windows.{Window}
use Rattle.open_fits.specs.Opens.{IsQuestion, IsRefusedAt}
use Rattle.stated_history.specs.Outline.{outline}
use Rattle.stated_history.specs.SaidAnswers.{data_said}
use Rattle.stated_history.specs.declared.Body.{Body as Printed}
use Rattle.transcript_fits.specs.declared.line_fit.LineFit.{LineFit}
use Rattle.transcript_fits.specs.declared.line_fit.LineFit.TheVariants.{Unfit, Fits, IfRefused, IfMet}
use Rattle.transcript_fits.specs.declared.line_fit.ToldLine.{ToldLine}

-- what is told of a line: it fits, it doesn't, or it does exactly where what is asked is so
abbrev pub IsLineFit : History → Type 0 → LineFit → Type 0
IsLineFit history fits Unfit = ¬ fits
IsLineFit history fits Fits = fits
IsLineFit history fits (IfRefused question) = fits ↔ IsRefusedAt history question
IsLineFit history fits (IfMet waiting) = fits ↔ IsMetIn history waiting

-- what is asked may be asked of the history
abbrev pub MayBeAsked : History → LineFit → Type 0
MayBeAsked history Unfit = Unit {0}
MayBeAsked history Fits = Unit {0}
MayBeAsked history (IfRefused question) = IsQuestion (outline history) question
MayBeAsked history (IfMet waiting) = IsWaitingIn history waiting

-- the numbers of events between which a line may have looked
abbrev pub window_of_line : ToldLine → Window
window_of_line line = record { from = line.window.from; upto = line.window.upto }

-- what the answer to a line reads as
abbrev pub answer_of_line : ToldLine → Data
answer_of_line line = data_said line.answer.now

-- the answer to a line is one that it may have, where this transaction stands and this is asked
abbrev pub IsAnsweredSo : History → ToldLine → Option Transaction → Asked → Type 0
IsAnsweredSo history line t asked =
    IsAnsweredBy history line.owner (window_of_line line) t line.line asked line.text.now (answer_of_line line)

-- whoever asks for what has this one answer, the line is told of right
abbrev pub AreOneAnswer : ToldLine → Printed → LineFit → Type 0
AreOneAnswer line body fit =
    (history : History) (t : Option Transaction) (asked : Asked) (told : Body)
    → IsAnswerText line.line line.text.now (answer_of_line line) → HasOneAnswer asked told → body ≡ body_of told
    → IsLineFit history (IsAnsweredSo history line t asked) fit

-- it waits for nothing
abbrev pub IsPlainFit : LineFit → Type 0
IsPlainFit Unfit = Unit {0}
IsPlainFit Fits = Unit {0}
IsPlainFit (IfRefused question) = ⊥
IsPlainFit (IfMet waiting) = ⊥
