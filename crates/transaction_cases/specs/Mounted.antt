-- The names of the stores of a line.
use Rattle.std.specs.Prelude.{◌≡◌, ◌⊎◌, ℕ, List, [], ◌∷◌, codes}

-- one letter each
abbrev pub two_names : List (List ℕ)
two_names = codes "a" ∷ codes "b" ∷ []

-- one of them
abbrev pub IsName : List ℕ → Type 0
IsName name = (name ≡ codes "a") ⊎ (name ≡ codes "b")
