-- A session that is given the lines of a script.
use Rattle.std.specs.Prelude.{◌≡◌, ◌⊎◌, ℕ, ◌+◌, List, [], ◌∷◌, ◌++◌, length, true, false, Option}
use Rattle.history.specs.Lines.{Line}
pub use Rattle.session_openings.specs.Meanings.{asked_line, asked_by}
use Rattle.session_runs.specs.Session.{SessionSeen, IsSessionOn}
use Rattle.session_openings.specs.Agreement.{Opening}
use Rattle.turn_book.specs.Passes.{BookView}

-- the session was given the script's lines from the first on: all of them, or up to where memory was wanting
pub record HasRunScript (book : BookView Opening) (mounts : List (List ℕ)) (script : List ℕ) (s : SessionSeen) : Type 0 where
  pub given : List (Option Line)
  pub left : List (Option Line)
  pub parts : asked_by mounts script ≡ given ++ left
  pub on : IsSessionOn book s given
  pub whole : s.ended ≡ false → left ≡ []

-- a line more was given to a session, which goes on; nothing is asked where the line is blank
pub record IsGivenMore (book : BookView Opening) (was now : SessionSeen) (number : ℕ) (asked : Option Line) : Type 0 where
  pub going : now.ended ≡ false
  pub on : (lines : List (Option Line)) → number ≡ length lines + 1 → IsSessionOn book was lines → IsSessionOn book now (lines ++ asked ∷ [])

-- it has ended, with the line's answer or for want of memory for one
pub record IsGivenLast (book : BookView Opening) (was now : SessionSeen) (number : ℕ) (asked : Option Line) : Type 0 where
  pub ended : now.ended ≡ true
  pub on : (lines : List (Option Line)) → number ≡ length lines + 1 → IsSessionOn book was lines → (IsSessionOn book now lines ⊎ IsSessionOn book now (lines ++ asked ∷ []))
