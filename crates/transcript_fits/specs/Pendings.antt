-- What lines wait for that were judged.
use Rattle.std.specs.Prelude.{◌≡◌, ◌↔◌, ◌<◌, ◌≤◌, ℕ, List, [], Bool, true, false, Some}
use Rattle.std.specs.List.{AllByRecursion, slice_get}
use Rattle.history.specs.History.{History}
use Rattle.open_fits.specs.Fitting.{AreFitting}
use Rattle.open_fits.specs.Sweeps.{IsMetIn, IsWaitingIn}
use Rattle.open_fits.specs.Opens.{IsQuestion, IsRefusedAt}
use Rattle.stated_history.specs.Outline.{outline}
use Rattle.stated_history.specs.ToldNumbers.{told_of}
use Rattle.stated_history.specs.ToldStandings.{first_standing}
use Rattle.stated_history.specs.Transcript.{Told}
use Rattle.stated_history.specs.declared.Said.{Said}
use Rattle.stated_history.specs.Walks.{AreToldIn}
use Rattle.transcript_fits.specs.Judges.{history_of}
use Rattle.transcript_fits.specs.Sessions.{AreFittingUpTo}
use Rattle.transcript_fits.specs.declared.judge.Judge.{Judge}
use Rattle.transcript_fits.specs.declared.line_fit.LineFit.{LineFit}
use Rattle.transcript_fits.specs.declared.line_fit.LineFit.TheVariants.{Unfit, Fits, IfRefused, IfMet}
use Rattle.transcript_fits.specs.declared.pending.Pending.{Pending}

-- what is waited for may be asked of the history
pub record MayHold (history : History) (p : Pending) : Type 0 where
  pub questions : AllByRecursion (IsQuestion (outline history)) p.questions.items
  pub waiting : AllByRecursion (IsWaitingIn history) p.waiting.items

-- all of it is so
pub record Holds (history : History) (p : Pending) : Type 0 where
  pub refused : AllByRecursion (IsRefusedAt history) p.questions.items
  pub met : AllByRecursion (IsMetIn history) p.waiting.items

-- what a line waits for is so
abbrev pub IsSo : History → LineFit → Type 0
IsSo history Unfit = ⊥
IsSo history Fits = Unit {0}
IsSo history (IfRefused question) = IsRefusedAt history question
IsSo history (IfMet waiting) = IsMetIn history waiting

-- what a line waits for is waited for too; or it doesn't fit
abbrev pub HasAdded : History → LineFit → Pending → Pending → Bool → Type 0
HasAdded history fit old new true = Holds history new ↔ (Holds history old × IsSo history fit)
HasAdded history fit old new false = fit ≡ Unfit

-- what is waited for is so exactly where that was so before and the first lines of a session fit
abbrev pub AreAwaited : Judge → ℕ → Pending → Pending → ℕ → Type 0
AreAwaited j session old new many =
    (told : List Told) → AreToldIn j.source.now told
    → Holds (history_of j) new ↔ (Holds (history_of j) old × AreFittingUpTo (history_of j) (told_of session told) many)

-- and where all lines of a session do; or they don't
abbrev pub IsSessionJudged : Judge → ℕ → Pending → Pending → Bool → Type 0
IsSessionJudged j session old new true =
    (told : List Told) → AreToldIn j.source.now told
    → Holds (history_of j) new
    ↔ (Holds (history_of j) old × AreFitting (history_of j) [] first_standing (told_of session told))
IsSessionJudged j session old new false =
    (told : List Told) → AreToldIn j.source.now told
    → ¬ AreFitting (history_of j) [] first_standing (told_of session told)

-- the lines of the sessions before one are judged, which are those before a place
pub record AreJudgedBefore (j : Judge) (session place : ℕ) (p : Pending) : Type 0 where
  pub may : MayHold (history_of j) p
  pub before : (k : ℕ) (d : Said) → k < place → slice_get j.source.now.said.now k ≡ Some d → d.line.session < session
  pub behind : (k : ℕ) (d : Said) → place ≤ k → slice_get j.source.now.said.now k ≡ Some d → session ≤ d.line.session
  pub fits : (told : List Told) → AreToldIn j.source.now told
      → Holds (history_of j) p
      ↔ ((other : ℕ) → other < session → AreFitting (history_of j) [] first_standing (told_of other told))
