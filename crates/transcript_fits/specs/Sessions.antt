-- The lines of one session, one after another.
use Rattle.std.specs.Prelude.{◌≡◌, ◌<◌, ◌≤◌, ◌+◌, ℕ, suc, List, take, drop, length, Some}
use Rattle.std.specs.List.{slice_get}
use Rattle.history.specs.History.{History}
use Rattle.open_fits.specs.Fitting.{IsFitting}
use Rattle.open_fits.specs.Windows.{window_of}
use Rattle.stated_history.specs.ToldStandings.{standing}
use Rattle.stated_history.specs.Transcript.{Told}
use Rattle.stated_history.specs.declared.Said.{Said}

-- of the answers that are kept, those of a session stand from one place on, so many of them
pub record IsSessionAt (said : List Said) (session begin many : ℕ) : Type 0 where
  pub within : begin + many ≤ length said
  pub before : (k : ℕ) (d : Said) → k < begin → slice_get said k ≡ Some d → d.line.session < session
  pub own : (k : ℕ) (d : Said) → begin ≤ k → k < begin + many → slice_get said k ≡ Some d → d.line.session ≡ session
  pub behind : (k : ℕ) (d : Said) → begin + many ≤ k → slice_get said k ≡ Some d → session < d.line.session

-- of the lines of a session, the one at a place fits
abbrev pub IsFittingAt : History → List Told → ℕ → Type 0
IsFittingAt history told k =
    (t : Told) → slice_get told k ≡ Some t
    → IsFitting history
    (window_of (length history) (standing history (take k told)).transaction (take k told) t (drop (suc k) told))
    (standing history (take k told)) t

-- the first so many of them do
abbrev pub AreFittingUpTo : History → List Told → ℕ → Type 0
AreFittingUpTo history told many = (k : ℕ) → k < many → IsFittingAt history told k
