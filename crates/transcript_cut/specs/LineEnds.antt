-- Where the first line of a text ends.
use Rattle.std.specs.Prelude.{◌≡◌, ◌<◌, ◌≤◌, ℕ, ◌+◌, List, ◌∷◌, ◌++◌, false, length, take, drop}
use Rattle.transcript_laws.specs.AnswerLines.{has_lf}

-- at the first LF, or where there is none at the text's end
pub record IsLineEnd (text : List ℕ) (spot : ℕ) : Type 0 where
  pub within : spot ≤ length text
  pub before : has_lf (take spot text) ≡ false
  pub behind : spot < length text → text ≡ take spot text ++ 10 ∷ drop (spot + 1) text
