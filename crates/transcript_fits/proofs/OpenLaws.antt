-- What is told of open lines is what is told of their leaves.
use Rattle.std.proofs.Common.{◌≡◌, inl, inr, ◌∙◌, ℕ, List, Option, Ok, sym, ap, subst}
use Rattle.serde_json.specs.Data.{Data}
use Rattle.history.specs.Acts.{opens}
use Rattle.history.specs.Commit.{Transaction}
use Rattle.history.specs.History.{History}
use Rattle.history.specs.Lines.{SpecLeaf, Build}
use Rattle.open_fits.specs.Opens as opening
use Rattle.open_fits.specs.Opened.{OpenedIsUnrefused}
use Rattle.open_fits.specs.Opens.{IsJudged, IsOpenLine}
use Rattle.open_fits.specs.declared.opens.OpenFit.{OpenFit}
use Rattle.open_fits.specs.declared.opens.OpenFit.TheVariants as leaf
use Rattle.open_fits.specs.declared.questions.OpenTold.{OpenTold}
use Rattle.open_fits.specs.AnswerLines.{IsAnswerText}
use Rattle.open_fits.specs.Fits.{IsAnsweredBy}
use Rattle.open_fits.specs.ToldNumbers.{single}
use Rattle.open_fits.specs.Windows.{Window}
use Rattle.stated_history.specs.Outline.{outline}
use Rattle.stated_history.specs.Stating.{numbers_taken}
use Rattle.stated_history.specs.declared.OpenPlan.{OpenPlan}
use Rattle.stated_history.specs.Walks.{outlined, takings_at}
use Rattle.stated_history.proofs.Laws.{kept_outline}
use Rattle.transcript_fits.specs.Changing.{PrintsLine}
use Rattle.transcript_fits.specs.Judges.{IsJudge, history_of}
use Rattle.transcript_fits.specs.LineFits.{IsAnsweredSo, IsLineFit, MayBeAsked, answer_of_line}
use Rattle.transcript_fits.specs.Openings.{IsOpening, IsOpeningFit, IsToldOpening, AreJudgedAlike}
use Rattle.transcript_fits.specs.declared.judge.Judge.{Judge}
use Rattle.transcript_fits.specs.declared.line_fit.LineFit.{LineFit}
use Rattle.transcript_fits.specs.declared.line_fit.ToldLine.{ToldLine}

-- what is kept of an open line is as its leaves are judged by
pub open_line_of : (j : Judge) (line : ToldLine) (place : ℕ) (plan : OpenPlan) (name : List ℕ) (told : OpenTold) → IsJudge j → PrintsLine (history_of j) line → IsOpening j line place plan → IsToldOpening line name told
    → IsOpenLine plan (takings_at j.source.now place) j.source.now.openings.now told (answer_of_line line)
open_line_of j line place plan name told is prints begun so = record {
  sound = begun.sound;
  arrays = (kept_outline j.source.now is.source).kept;
  taken = ap (numbers_taken (outlined j.source.now) _) so.numbers ∙ begun.taken;
  given = begun.given;
  text = subst (λ (p : ℕ × List ℕ). IsAnswerText p.0 p.1 (answer_of_line line)) (λ i. (sym so.line_is i, sym so.text i)) prints.text;
  opened = prints.numbers.opened ∙ sym so.numbers;
  failed = prints.numbers.failed ∙ ap single (sym so.failed);
}

-- the same is told of the line
pub alike_fits : (h : History) (fits : Type 0) (name : List ℕ) (line : ToldLine) (told : OpenTold) (fit : OpenFit) (is : LineFit) → OpenedIsUnrefused → IsAnswerText line.line line.text.now (answer_of_line line) → IsToldOpening line name told → opening.AsksOf told fit
    → AreJudgedAlike (answer_of_line line) fit is → IsJudged h fits fit → IsLineFit h fits is
alike_fits h fits name line told leaf.Unfit is law text so asks alike judged = subst (IsLineFit h fits) (sym alike) judged
alike_fits h fits name line told leaf.Fits is law text so asks alike judged = subst (IsLineFit h fits) (sym alike) judged
alike_fits h fits name line told (leaf.IfRefused question) is law text so asks (inl waits) judged = subst (IsLineFit h fits) (sym waits.0) judged
alike_fits h fits name line told (leaf.IfRefused question) is law text so asks (inr bound) judged =
    let number : line.line ≡ question.told.line = sym so.line_is ∙ ap (λ (x : OpenTold). x.line) (sym asks) in
    let bytes : line.text.now ≡ question.told.text = sym so.text ∙ ap (λ (x : OpenTold). x.text) (sym asks) in
    let here = subst (λ (p : ℕ × List ℕ). IsAnswerText p.0 p.1 (answer_of_line line)) (λ i. (number i, bytes i)) text in
    subst (IsLineFit h fits) (sym bound.0) (λ fit. law question (answer_of_line line) bound.1.0 here bound.1.1 h (judged.0 fit))

pub alike_asked : (h : History) (events : History) (d : Data) (fit : OpenFit) (line : LineFit) → outline h ≡ events → AreJudgedAlike d fit line → opening.MayBeAsked events fit → MayBeAsked h line
alike_asked h events d leaf.Unfit line same alike asked = subst (MayBeAsked h) (sym alike) tt
alike_asked h events d leaf.Fits line same alike asked = subst (MayBeAsked h) (sym alike) tt
alike_asked h events d (leaf.IfRefused question) line same (inl waits) asked = subst (MayBeAsked h) (sym waits.0) (subst (λ e. opening.IsQuestion e question) (sym same) asked)
alike_asked h events d (leaf.IfRefused question) line same (inr bound) asked = subst (MayBeAsked h) (sym bound.0) tt

pub alike_opening : (d : Data) (fit : OpenFit) (line : LineFit) → AreJudgedAlike d fit line → IsOpeningFit d line
alike_opening d leaf.Unfit line alike = subst (IsOpeningFit d) (sym alike) tt
alike_opening d leaf.Fits line alike = subst (IsOpeningFit d) (sym alike) tt
alike_opening d (leaf.IfRefused question) line (inl waits) = subst (IsOpeningFit d) (sym waits.0) waits.1
alike_opening d (leaf.IfRefused question) line (inr bound) = subst (IsOpeningFit d) (sym bound.0) tt

-- the leaves' line is the line
pub told_so : (h : History) (t : Option Transaction) (line : ToldLine) (name : List ℕ) (told : OpenTold) (leaves : List SpecLeaf) (build : Build) (fit : OpenFit) → IsToldOpening line name told
    → IsJudged h (IsAnsweredBy h line.owner (opening.window_told told) t told.line (Ok (opens told.name leaves build)) told.text (answer_of_line line)) fit
    → IsJudged h (IsAnsweredSo h line t (Ok (opens name leaves build))) fit
told_so h t line name told leaves build fit so judged =
    subst (λ (p : ℕ × Window × List ℕ × List ℕ). IsJudged h (IsAnsweredBy h line.owner p.1 t p.0 (Ok (opens p.2 leaves build)) p.3 (answer_of_line line)) fit)
    (λ i. (so.line_is i, record { from = so.from i; upto = so.upto i }, so.name_is i, so.text i))
    judged
