-- Marks of places: a bit for each, in words of 64.
use Rattle.std.specs.Prelude.{ℕ, ◌/◌, ◌%◌, Bool, List, map, slice_index, nat_eq}
use Rattle.std.specs.Int.{bit_at}
use Rattle.std.specs.List.{range_with_len}

-- whether a place is marked
unfoldable pub is_marked : List ℕ → ℕ → Bool
is_marked marks place = nat_eq (bit_at (slice_index marks (place / 64)) (place % 64)) 1

-- the marks of so many places
abbrev pub marks_of : ℕ → List ℕ → List Bool
marks_of count marks = map (is_marked marks) (range_with_len 0 count)
