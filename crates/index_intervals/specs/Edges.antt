-- A bound by itself: an edge, which is missing where the bound is infinite and may pass the range of indices.
use Rattle.std.specs.Prelude.{ℤ, pos, neg_ℤ, ◌+ℤ◌, ◌-ℤ◌, ◌≤ℤ◌, int_lt, Bool, ◌||◌, if◌then◌else◌, Option, Some, None, is_none, unwrap_or}
use Rattle.std.specs.Int.{is_negative}
use Rattle.std.specs.Option.{option_map, ForSome}
use Rattle.index_intervals.specs.Bounds.{Bounds, is_index, minus_infinity, plus_infinity}
use Rattle.index_intervals.specs.declared.edge.Edge.{Edge}
use Rattle.index_intervals.specs.declared.edge.Ends.{Ends}
use Rattle.index_intervals.specs.Stride.{quotient_down, quotient_up}

abbrev pub finite_part : ℤ → Option ℤ
finite_part x = if is_index x then Some x else None

abbrev pub lower_edge : Bounds → Edge
lower_edge dim = record { at = finite_part dim.lo; implicit = dim.lo_implicit }

abbrev pub upper_edge : Bounds → Edge
upper_edge dim = record { at = finite_part dim.hi; implicit = dim.hi_implicit }

-- both edges of an interval
abbrev pub ends_of : Bounds → Ends
ends_of dim = record { lower = lower_edge dim; upper = upper_edge dim }

-- an edge that is implicit or missing
abbrev pub is_open : Edge → Bool
is_open edge = edge.implicit || is_none edge.at

-- the interval between two edges; where they cross, its upper bound is the number below its lower one
abbrev pub interval_of : Edge → Edge → Bounds
interval_of lower upper =
    let lo = unwrap_or lower.at minus_infinity in
    let hi = unwrap_or upper.at plus_infinity in
    record {
      lo = lo;
      hi = (if int_lt (hi +ℤ pos 1) lo then lo -ℤ pos 1 else hi);
      lo_implicit = lower.implicit;
      hi_implicit = upper.implicit;
    }

-- the least x that a lower bound of `offset + stride * x` lets pass, for a positive stride, and the greatest
abbrev pub least_from : ℤ → ℤ → ℤ → ℤ
least_from offset stride low = quotient_up (low -ℤ offset) stride

abbrev pub greatest_to : ℤ → ℤ → ℤ → ℤ
greatest_to offset stride high = quotient_down (high -ℤ offset) stride

-- the same from the other side, for a negative stride
abbrev pub least_beyond : ℤ → ℤ → ℤ → ℤ
least_beyond offset stride high = quotient_up (offset -ℤ high) (neg_ℤ stride)

abbrev pub greatest_before : ℤ → ℤ → ℤ → ℤ
greatest_before offset stride low = quotient_down (offset -ℤ low) (neg_ℤ stride)

-- the lower and the upper edge of the x whose image lies in an interval; for a negative stride edges and flags change places
abbrev pub preimage_lower : Bounds → ℤ → ℤ → Edge
preimage_lower dim offset stride =
    if is_negative stride
    then record { at = option_map (least_beyond offset stride) (finite_part dim.hi); implicit = dim.hi_implicit }
    else record { at = option_map (least_from offset stride) (finite_part dim.lo); implicit = dim.lo_implicit }

abbrev pub preimage_upper : Bounds → ℤ → ℤ → Edge
preimage_upper dim offset stride =
    if is_negative stride
    then record { at = option_map (greatest_before offset stride) (finite_part dim.lo); implicit = dim.lo_implicit }
    else record { at = option_map (greatest_to offset stride) (finite_part dim.hi); implicit = dim.hi_implicit }

-- the pre-image of an interval: both edges of the x whose image lies in it
abbrev pub preimage : Bounds → ℤ → ℤ → Ends
preimage dim offset stride = record { lower = preimage_lower dim offset stride; upper = preimage_upper dim offset stride }

-- x passes neither edge
pub record IsBetween (ends : Ends) (x : ℤ) : Type 0 where
  pub above : ForSome ends.lower.at (λ low. low ≤ℤ x)
  pub below : ForSome ends.upper.at (λ high. x ≤ℤ high)
