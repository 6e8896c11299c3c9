-- The lines of a script.
use Rattle.std.specs.Prelude.{ℕ, List, [], Bool, ◌||◌, ◌==◌, Option, Some, None}
use Rattle.std.specs.List.{list_all, slice_split}

-- what stands between the LFs of a script
abbrev pub lines_of : List ℕ → List (List ℕ)
lines_of script = slice_split (λ b. b == 10) script

-- the lines of what is left, where something is left
abbrev pub lines_left : Option (List ℕ) → List (List ℕ)
lines_left None = []
lines_left (Some script) = lines_of script

-- a line of spaces, tabs and CR alone, or an empty one
abbrev pub is_blank : List ℕ → Bool
is_blank line = list_all (λ b. b == 32 || b == 9 || b == 13) line
