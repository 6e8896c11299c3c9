-- Whether the numbers of maps lie in outer intervals.
use Rattle.std.specs.Prelude.{ℕ, ℤ, pos, ◌+ℤ◌, ◌*ℤ◌, int_lt, Bool, not, ◌&&◌, ◌||◌, if◌then◌else◌, List, slice_index_or, Option}
use Rattle.std.specs.Int.{is_negative}
use Rattle.std.specs.List.{list_all, zip, position_from}
use Rattle.index_transform.specs.Bounds.{Bounds, is_index}
use Rattle.index_transform.specs.Members.{effective_lo, effective_hi}
use Rattle.index_transform.specs.declared.map.OutMap.{OutMap}
use Rattle.index_transform.specs.declared.map.OutMap.TheVariants.{Constant, Strided, Indexed}
use Rattle.index_transform.specs.Values.{is_effective}

-- an infinite end goes to minus infinity by this stride
abbrev pub goes_down : ℤ → ℤ → Bool
goes_down stride bound = if is_negative stride then int_lt (pos 0) bound else int_lt bound (pos 0)

-- an end of the tightened interval goes to a number of the outer interval, or to an infinity that it has
abbrev pub end_inside : Bounds → ℤ → ℤ → ℤ → Bool
end_inside outer offset stride bound =
    if is_index bound then is_effective outer (offset +ℤ stride *ℤ bound)
    else (if goes_down stride bound then not (is_index (effective_lo outer)) else not (is_index (effective_hi outer)))

-- every number from the interval goes to one of the outer interval
abbrev pub are_ends_inside : Bounds → Bounds → ℤ → ℤ → Bool
are_ends_inside dim outer offset stride =
    int_lt dim.hi dim.lo || (end_inside outer offset stride dim.lo && end_inside outer offset stride dim.hi)

-- every number of the map lies in the outer interval, as indexing goes
abbrev pub is_inside_by : List Bounds → Bounds → OutMap → Bool
is_inside_by dims outer (Constant offset) = is_effective outer offset
is_inside_by dims outer (Strided offset stride dim) = are_ends_inside (slice_index_or dims dim outer) outer offset stride
is_inside_by dims outer (Indexed offset stride sizes entries) = list_all (λ x. is_effective outer (offset +ℤ stride *ℤ x)) entries

abbrev pub first_outside_by : List Bounds → List Bounds → List OutMap → Option ℕ
first_outside_by dims outers maps = position_from (λ p. not (is_inside_by dims p.0 p.1)) 0 (zip outers maps)
