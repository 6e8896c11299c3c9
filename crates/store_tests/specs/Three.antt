-- The names of three mounts of a test.
use Rattle.std.specs.Prelude.{ℕ, List, [], ◌∷◌, codes}

-- one letter each
abbrev pub three_names : List (List ℕ)
three_names = codes "a" ∷ codes "b" ∷ codes "c" ∷ []
