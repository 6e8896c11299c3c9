-- Numbers of events that rise, and moments. A moment is a count of events: at moment m the events up to number m have happened.
use Rattle.std.specs.Prelude.{ℕ, suc, ◌<◌, ◌-◌, nat_le, List, [], ◌∷◌, ◌++◌, length, get_or, ◌==◌, if◌then◌else◌}

-- each number is below the next ones
pub record IsRising (numbers : List ℕ) : Type 0 where
  pub each : (i j : ℕ) → i < j → j < length numbers → get_or numbers i 0 < get_or numbers j 0

-- how many of some rising numbers have happened at a moment
abbrev pub up_to : ℕ → List ℕ → ℕ
up_to m [] = 0
up_to m (n ∷ numbers) = if nat_le n m then suc (up_to m numbers) else 0

-- the last of some numbers
abbrev pub newest : List ℕ → ℕ
newest numbers = get_or numbers (length numbers - 1) 0

-- the numbers with this one as the last of them
abbrev pub touched : ℕ → List ℕ → List ℕ
touched n numbers = if newest numbers == n then numbers else numbers ++ n ∷ []
