-- A line of a session as it is judged, and as it is told.
use Rattle.std.proofs.Common.{◌≡◌, ◌↔◌, ◌∙◌, ℕ, suc, List, Some, take, drop, length, sym, subst}
use Rattle.std.specs.List.{slice_get}
use Rattle.history.specs.History.{History}
use Rattle.serde_json.specs.Data.{Data}
use Rattle.history.proofs.Laws.{some_inj}
use Rattle.open_fits.specs.Fits.{IsAnsweredBy}
use Rattle.open_fits.specs.Fitting.{IsFitting}
use Rattle.open_fits.specs.Windows.{Window, window_of}
use Rattle.stated_history.specs.ToldStandings.{Standing, act_at, standing}
use Rattle.stated_history.specs.Transcript.{Told}
use Rattle.transcript_fits.specs.LineFits.{IsAnsweredSo, IsLineFit, answer_of_line, window_of_line}
use Rattle.transcript_fits.specs.Sessions.{IsFittingAt}
use Rattle.transcript_fits.specs.declared.line_fit.LineFit.{LineFit}
use Rattle.transcript_fits.specs.declared.line_fit.ToldLine.{ToldLine}

-- a line that is told so, which may have looked between these events
pub record IsTold (line : ToldLine) (w : Window) (t : Told) : Type 0 where
  pub owner : line.owner ≡ t.session
  pub number : line.line ≡ t.number
  pub text : line.text.now ≡ t.text
  pub answer : answer_of_line line ≡ t.answer
  pub window : window_of_line line ≡ w

-- it fits where its answer is one that it may have
fitting_is : (h : History) (w : Window) (s : Standing) (t : Told) → IsAnsweredBy h t.session w s.transaction t.number (act_at s t) t.text t.answer ↔ IsFitting h w s t
fitting_is h w s t = (
  λ by. record { answer = by.answer; printed = by.printed; object = by.object; may = by.may },
  λ is. record { answer = is.answer; printed = is.printed; object = is.object; may = is.may },
)

-- a line's owner, window, number, text and answer
abbrev LineParts : Type 0
LineParts = ℕ × Window × ℕ × List ℕ × Data

abbrev AnsweredBy : History → Standing → Told → LineParts → Type 0
AnsweredBy h s t p = IsAnsweredBy h p.0 p.1 s.transaction p.2 (act_at s t) p.3 p.4

abbrev told_parts : ToldLine → LineParts
told_parts line = (line.owner, window_of_line line, line.line, line.text.now, answer_of_line line)

parts_same : (line : ToldLine) (w : Window) (t : Told) → IsTold line w t → told_parts line ≡ (t.session, w, t.number, t.text, t.answer)
parts_same line w t is = λ i. (is.owner i, is.window i, is.number i, is.text i, is.answer i)

-- the window of a session's line
abbrev window_at_line : History → List Told → ℕ → Told → Standing → Window
window_at_line h ts at t s = window_of (length h) s.transaction (take at ts) t (drop (suc at) ts)

pub told_fits : (h : History) (line : ToldLine) (ts : List Told) (at : ℕ) (s : Standing) (t : Told) → slice_get ts at ≡ Some t → s ≡ standing h (take at ts)
    → IsTold line (window_of (length h) s.transaction (take at ts) t (drop (suc at) ts)) t
    → IsAnsweredSo h line s.transaction (act_at s t) ↔ IsFittingAt h ts at
told_fits h line ts at s t there stands is = (forth, back)
  where
    forth : IsAnsweredSo h line s.transaction (act_at s t) → IsFittingAt h ts at
    forth by = λ u other.
        let same : t ≡ u = some_inj t u (sym there ∙ other) in
        let one : IsFitting h (window_at_line h ts at t s) s t = (fitting_is h (window_at_line h ts at t s) s t).0 (subst (AnsweredBy h s t) (parts_same line (window_at_line h ts at t s) t is) by) in
        let two : IsFitting h (window_at_line h ts at t (standing h (take at ts))) (standing h (take at ts)) t = subst (λ x. IsFitting h (window_at_line h ts at t x) x t) stands one in
        subst (λ v. IsFitting h (window_of (length h) (standing h (take at ts)).transaction (take at ts) v (drop (suc at) ts)) (standing h (take at ts)) v) same two

    back : IsFittingAt h ts at → IsAnsweredSo h line s.transaction (act_at s t)
    back fits =
        let one = subst (λ x. IsFitting h (window_at_line h ts at t x) x t) (sym stands) (fits t there) in
        subst (AnsweredBy h s t) (sym (parts_same line (window_at_line h ts at t s) t is)) ((fitting_is h (window_at_line h ts at t s) s t).1 one)

-- whoever tells of the line, it is told of right in the same cases
pub told_so : (h : History) (line : ToldLine) (w : Window) (s : Standing) (t : Told) (fit : LineFit) → IsTold line w t → IsLineFit h (IsAnsweredSo h line s.transaction (act_at s t)) fit
    → IsLineFit h (IsAnsweredBy h t.session w s.transaction t.number (act_at s t) t.text t.answer) fit
told_so h line w s t fit is fits = subst (λ (p : LineParts). IsLineFit h (AnsweredBy h s t p) fit) (parts_same line w t is) fits
