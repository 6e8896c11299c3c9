-- The words of a check.
use Rattle.std.specs.Prelude.{◌≢◌, ◌≤◌, ℕ, List, [], ◌∷◌, length}
use Rattle.std.specs.List.{AllByRecursion}

-- a word that is a file: it isn't empty, and doesn't begin with `-`
abbrev pub IsFileWord : List ℕ → Type 0
IsFileWord [] = ⊥
IsFileWord (b ∷ bytes) = b ≢ 45

-- a transcript and 1 to 1,024 scripts
pub record AreCheckWords (words : List (List ℕ)) : Type 0 where
  pub least : 2 ≤ length words
  pub most : length words ≤ 1025
  pub files : AllByRecursion IsFileWord words
