-- Texts made of numbered parts.
use Rattle.std.specs.Prelude.{ℕ, List, [], ◌++◌, codes, nat_lt, if◌then◌else◌}
use Rattle.std.specs.List.{flat_map, range_with_len}

-- so many parts one after another, the first of them part 0
unfoldable pub parts : ℕ → (ℕ → List ℕ) → List ℕ
parts count part = flat_map part (range_with_len 0 count)

-- a comma before each part but the first
abbrev pub comma_before : ℕ → List ℕ
comma_before place = if nat_lt 0 place then codes "," else []

-- so many parts as a list of JSON
abbrev pub list_of : ℕ → (ℕ → List ℕ) → List ℕ
list_of count part = codes "[" ++ parts count (λ place. comma_before place ++ part place) ++ codes "]"
