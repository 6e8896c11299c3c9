-- Candidates, and which of them are ruled out: an entry tells up to which candidate, without it, those from its place on are.
use Rattle.std.specs.Prelude.{ℕ, zero, suc, ◌<◌, ◌≤◌, ◌↔◌, max, List, [], ◌∷◌, length}

-- the greatest of the entries up to a place
abbrev pub reached : List ℕ → ℕ → ℕ
reached [] k = 0
reached (until ∷ reach) zero = until
reached (until ∷ reach) (suc k) = max until (reached reach k)

-- the candidate isn't ruled out
abbrev pub IsGood : List ℕ → ℕ → Type 0
IsGood reach k = reached reach k ≤ k

-- of the candidates that were left, those for which this holds are
abbrev pub AreJudged : List ℕ → List ℕ → (ℕ → Type 0) → Type 0
AreJudged old new P = (k : ℕ) → k < length old → IsGood new k ↔ (IsGood old k × P k)
