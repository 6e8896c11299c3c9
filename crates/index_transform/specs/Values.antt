-- The value of a transform at an index vector.
use Rattle.std.specs.Prelude.{ℕ, ◌+◌, ◌*◌, ◌==◌, ℤ, ◌+ℤ◌, ◌-ℤ◌, ◌*ℤ◌, pos, negsuc, unsigned_abs, int_le, int_lt, nat_lt, Bool, true, false, not, ◌&&◌, ◌||◌, if◌then◌else◌, List, [], ◌∷◌, length, map, slice_index_or, Option, Some, None, Result, Ok, Err}
use Rattle.std.specs.List.{zip, position_from}
use Rattle.cells.specs.Places.{cell_count}
use Rattle.index_intervals.specs.Bounds.{Bounds, is_index}
use Rattle.index_transform.specs.declared.map.OutMap.{OutMap}
use Rattle.index_transform.specs.declared.map.OutMap.TheVariants.{Constant, Strided, Indexed}
use Rattle.index_transform.specs.declared.error.AtError.{AtError}
use Rattle.index_transform.specs.declared.error.AtError.TheVariants.{OutOfRange, Overflow}
use Rattle.index_transform.specs.Maps.{are_entries}
use Rattle.index_transform.specs.Transforms.{DomainAndMaps}

-- where along a dimension an index array is read; along a size of 1 the index doesn't matter
abbrev pub entry_index : Bounds → ℕ → ℤ → ℕ
entry_index dim size x = if size == 1 then 0 else unsigned_abs (x -ℤ dim.lo)

-- the place of an index array's entry, in C order
abbrev pub entry_place : List Bounds → List ℕ → List ℤ → ℕ
entry_place [] sizes index = 0
entry_place (dim ∷ dims) [] index = 0
entry_place (dim ∷ dims) (size ∷ sizes) [] = 0
entry_place (dim ∷ dims) (size ∷ sizes) (x ∷ index) = entry_index dim size x * cell_count sizes + entry_place dims sizes index

-- the index is one along which an array of this size is read
abbrev pub reaches_dim : Bounds → ℕ → ℤ → Bool
reaches_dim dim size x = size == 1 || (int_le dim.lo x && nat_lt (unsigned_abs (x -ℤ dim.lo)) size)

-- the index vector lies inside the dimensions on which an index array depends
abbrev pub reaches : List Bounds → List ℕ → List ℤ → Bool
reaches [] [] [] = true
reaches (dim ∷ dims) (size ∷ sizes) (x ∷ index) = reaches_dim dim size x && reaches dims sizes index
reaches dims sizes index = false

-- the map has a number at the index vector
abbrev pub has_value : List Bounds → List ℤ → OutMap → Bool
has_value dims index (Constant offset) = true
has_value dims index (Strided offset stride dim) = nat_lt dim (length index)
has_value dims index (Indexed offset stride sizes entries) = reaches dims sizes index && are_entries sizes entries

-- one output number
abbrev pub map_value : List Bounds → List ℤ → OutMap → ℤ
map_value dims index (Constant offset) = offset
map_value dims index (Strided offset stride dim) = offset +ℤ stride *ℤ slice_index_or index dim (pos 0)
map_value dims index (Indexed offset stride sizes entries) =
    offset +ℤ stride *ℤ slice_index_or entries (entry_place dims sizes index) (pos 0)

-- the output numbers at an index vector
abbrev pub value_at : DomainAndMaps → List ℤ → List ℤ
value_at t index = map (map_value t.domain.dims index) t.maps

-- the index is an effective member of the interval
abbrev pub is_effective : Bounds → ℤ → Bool
is_effective dim x = is_index x && (dim.lo_implicit || int_le dim.lo x) && (dim.hi_implicit || int_le x dim.hi)

-- the first dimension whose effective interval lacks its index
abbrev pub first_outside : List Bounds → List ℤ → Option ℕ
first_outside dims index = position_from (λ p. not (is_effective p.0 p.1)) 0 (zip dims index)

-- the number fits 64 bits with a sign
abbrev pub is_word : ℤ → Bool
is_word x = int_le (negsuc 9223372036854775807) x && int_lt x (pos 9223372036854775808)

-- the first output whose number is no finite index
abbrev pub first_overflow : List ℤ → Option ℕ
first_overflow numbers = position_from (λ x. not (is_index x)) 0 numbers

abbrev pub unless_overflow : Option ℕ → List ℤ → Result (List ℤ) AtError
unless_overflow None numbers = Ok numbers
unless_overflow (Some output) numbers = Err (Overflow output)

-- the numbers, or the first that is no finite index
abbrev pub numbers_of : List ℤ → Result (List ℤ) AtError
numbers_of numbers = unless_overflow (first_overflow numbers) numbers

abbrev pub unless_outside : Option ℕ → Result (List ℤ) AtError → Result (List ℤ) AtError
unless_outside None answer = answer
unless_outside (Some dim) answer = Err (OutOfRange dim)

-- the output numbers, or the first reason against them
abbrev pub at_answer : DomainAndMaps → List ℤ → Result (List ℤ) AtError
at_answer t index = unless_outside (first_outside t.domain.dims index) (numbers_of (value_at t index))
