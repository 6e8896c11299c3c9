-- Dimensions by their numbers.
use Rattle.std.specs.Prelude.{ℕ, ◌==◌, ℤ, pos, int_le, int_lt, ◌+ℤ◌, unsigned_abs, ◌&&◌, if◌then◌else◌, List, [], filter, slice_index_or, Option, Some, None, is_none}
use Rattle.std.specs.List.{position_from, range_with_len}
use Rattle.index_intervals.specs.Bounds.{Bounds}
use Rattle.transform_composition.specs.Reading.{point}

-- a position among so many; a negative one counts from the end
abbrev pub position_of : ℕ → ℤ → Option ℕ
position_of rank x =
    let y = if int_lt x (pos 0) then x +ℤ pos rank else x in
    if int_le (pos 0) y && int_lt y (pos rank) then Some (unsigned_abs y) else None

-- where a dimension stands in a list
abbrev pub spot_in : List ℕ → ℕ → Option ℕ
spot_in dims dim = position_from (λ d. d == dim) 0 dims

-- the dimensions of a rank that aren't in the list, in their order
abbrev pub others : List ℕ → ℕ → List ℕ
others selected rank = filter (λ dim. is_none (spot_in selected dim)) (range_with_len 0 rank)

-- the interval and the label of a dimension
abbrev pub dim_at : List Bounds → ℕ → Bounds
dim_at dims dim = slice_index_or dims dim point

abbrev pub label_at : List (List ℕ) → ℕ → List ℕ
label_at labels dim = slice_index_or labels dim []
