-- The slice of an interval: the positions from a start by steps before a stop.
use Rattle.std.specs.Prelude.{◌≡◌, ◌≢◌, ℕ, ℤ, pos, ◌+ℤ◌, ◌-ℤ◌, ◌*ℤ◌, ◌<ℤ◌, ◌≤ℤ◌, int_lt, int_le, int_div, unsigned_abs, Bool, false, ◌&&◌, ◌||◌, not, if◌then◌else◌, Option, unwrap_or, is_none, Result, Ok, Err, MatchBool, ◌↔◌}
use Rattle.std.specs.Int.{div_ceil, is_negative}
use Rattle.std.specs.Option.{ForSome}
use Rattle.std.specs.Ordering.{int_eq}
use Rattle.index_intervals.specs.Bounds.{Bounds, IsIndex, is_index, minus_infinity, plus_infinity}
use Rattle.index_intervals.specs.Members.{IsMember, IsEffectiveMember, effective_lo, effective_hi}
use Rattle.index_intervals.specs.declared.slice.Sliced.{Sliced}
use Rattle.index_intervals.specs.declared.slice.SliceError.{SliceError}
use Rattle.index_intervals.specs.declared.slice.SliceError.TheVariants.{ZeroStep, Unbounded, BadOrder, OutOfRange}

-- a number that a start or stop can be: an index, or at most one past an infinity
pub record IsNearIndex (x : ℤ) : Type 0 where
  pub above : (minus_infinity -ℤ pos 1) ≤ℤ x
  pub below : x ≤ℤ (plus_infinity +ℤ pos 1)

-- where a slice starts: a start that is left out is the bound on that side
abbrev pub slice_start : Bounds → Option ℤ → ℤ → ℤ
slice_start b start step = unwrap_or start (if is_negative step then b.hi else b.lo)

-- the number before which a slice stops: one past the bound where it is left out
abbrev pub slice_stop : Bounds → Option ℤ → ℤ → ℤ
slice_stop b stop step = unwrap_or stop (if is_negative step then b.lo -ℤ pos 1 else b.hi +ℤ pos 1)

-- a part that is left out is infinite, and the step isn't 1
abbrev pub is_open : Bounds → Option ℤ → Option ℤ → ℤ → Bool
is_open b start stop step =
    let lo_out = if is_negative step then is_none stop else is_none start in
    let hi_out = if is_negative step then is_none start else is_none stop in
    not (int_eq step (pos 1)) && ((lo_out && not (is_index b.lo)) || (hi_out && not (is_index b.hi)))

-- the start lies past the stop, as the step runs
abbrev pub is_backward : ℤ → ℤ → ℤ → Bool
is_backward step from to = if is_negative step then int_lt from to else int_lt to from

-- numbers from the least to the greatest pass no explicit bound
abbrev pub covers : Bounds → ℤ → ℤ → Bool
covers b least greatest = int_le (effective_lo b) least && int_le greatest (effective_hi b)

-- the numbers from the start to before the stop pass none; an empty range lies in the interval or right behind it
abbrev pub is_inside : Bounds → ℤ → ℤ → ℤ → Bool
is_inside b step from to =
    if is_negative step && not (int_eq from to) then covers b (to +ℤ pos 1) from
    else covers b from (to -ℤ pos 1)

-- how many positions are kept: the distance by the step's size, rounded up
abbrev pub slice_size : ℤ → ℤ → ℤ → ℕ
slice_size step from to = div_ceil (unsigned_abs (to -ℤ from)) (unsigned_abs step)

-- the new bounds: from the start by the step, rounded towards zero, so many numbers
abbrev pub slice_lo : ℤ → ℤ → ℤ
slice_lo step from = int_div from step

abbrev pub slice_hi : ℤ → ℤ → ℤ → ℤ
slice_hi step from to = slice_lo step from +ℤ pos (slice_size step from to) -ℤ pos 1

-- a bound keeps its flag where it is left out at step 1, and is explicit else
abbrev pub keeps_flag : Option ℤ → ℤ → Bool
keeps_flag part step = is_none part && int_eq step (pos 1)

-- the new interval, and where its number x lay: at `offset + step * x`
abbrev pub kept_part : Bounds → Option ℤ → Option ℤ → ℤ → Sliced
kept_part b start stop step =
    let from = slice_start b start step in
    let to = slice_stop b stop step in
    record {
      interval = record {
        lo = slice_lo step from;
        hi = slice_hi step from to;
        lo_implicit = keeps_flag start step && b.lo_implicit;
        hi_implicit = keeps_flag stop step && b.hi_implicit;
      };
      offset = from -ℤ step *ℤ slice_lo step from;
      step = step;
    }

-- the slice of a start and stop in order, or the limits that it passes or where it would lie below every index
abbrev pub cut : Bounds → Option ℤ → Option ℤ → ℤ → Result Sliced SliceError
cut b start stop step =
    let from = slice_start b start step in
    let to = slice_stop b stop step in
    if is_inside b step from to && int_lt minus_infinity (slice_hi step from to)
    then Ok (kept_part b start stop step)
    else Err (OutOfRange (effective_lo b) (effective_hi b))

-- a slice, or the first reason against it
abbrev pub sliced : Bounds → Option ℤ → Option ℤ → ℤ → Result Sliced SliceError
sliced b start stop step =
    if int_eq step (pos 0) then Err ZeroStep
    else (
    if is_open b start stop step then Err Unbounded
    else (
    if is_backward step (slice_start b start step) (slice_stop b stop step) then Err BadOrder
    else cut b start stop step
    )
    )

-- the arguments are indices, and none of the first three reasons holds
pub record IsInOrder (b : Bounds) (start stop : Option ℤ) (step : ℤ) : Type 0 where
  pub start_index : ForSome start IsIndex
  pub stop_index : ForSome stop IsIndex
  pub nonzero : step ≢ pos 0
  pub closed : is_open b start stop step ≡ false
  pub forward : is_backward step (slice_start b start step) (slice_stop b stop step) ≡ false

-- p comes before the stop, as the step runs
abbrev pub IsBefore : ℤ → ℤ → ℤ → Type 0
IsBefore step p to = MatchBool (is_negative step) (to <ℤ p) (p <ℤ to)

-- a finite index at `start + step * k` before the stop
pub record IsKept (b : Bounds) (start stop : Option ℤ) (step p : ℤ) : Type 0 where
  pub index : IsIndex p
  pub count : ℕ
  pub reached : p ≡ slice_start b start step +ℤ step *ℤ pos count
  pub before : IsBefore step p (slice_stop b stop step)

-- the slice's numbers are the kept positions, each once, in the order of the step from the start
pub record KeepsPositions (b : Bounds) (start stop : Option ℤ) (step : ℤ) (s : Sliced) : Type 0 where
  pub first : s.offset +ℤ s.step *ℤ s.interval.lo ≡ slice_start b start step
  pub kept : (x : ℤ) → IsMember s.interval x ↔ IsKept b start stop step (s.offset +ℤ s.step *ℤ x)
  pub inside : (x : ℤ) → IsMember s.interval x → IsEffectiveMember b (s.offset +ℤ s.step *ℤ x)
  pub found : (p : ℤ) → IsKept b start stop step p → (x : ℤ) × (s.offset +ℤ s.step *ℤ x ≡ p)
  pub once : (x y : ℤ) → s.offset +ℤ s.step *ℤ x ≡ s.offset +ℤ s.step *ℤ y → x ≡ y
