-- What a step does to one dimension.
use Rattle.std.specs.Prelude.{ℕ, ◌==◌, ℤ, pos, neg_ℤ, ◌+ℤ◌, ◌-ℤ◌, Bool, true, false, not, ◌&&◌, ◌||◌, if◌then◌else◌, length, Option, Some, None, Result, Ok, Err}
use Rattle.std.specs.Ordering.{int_eq}
use Rattle.index_intervals.specs.Bounds.{Bounds, is_index}
use Rattle.index_intervals.specs.Shift.{shifted}
use Rattle.index_intervals.specs.Stride.{strided}
use Rattle.index_intervals.specs.Slice.{sliced}
use Rattle.index_intervals.specs.declared.slice.SliceError.{SliceError}
use Rattle.dim_changes.specs.declared.cause.Cause.{Cause}
use Rattle.dim_changes.specs.declared.cause.Cause.TheVariants.{ZeroStep, Unbounded, BadOrder, OutOfRange, Overflow}
use Rattle.dim_changes.specs.declared.cut.Cut.{Cut}
use Rattle.step_forms.specs.declared.act.Act.{Act}
use Rattle.step_forms.specs.declared.act.PerDim.{PerDim}
use Rattle.step_forms.specs.declared.act.Slices.{Slices}
use Rattle.step_forms.specs.declared.act.SlicePart.{SlicePart}
use Rattle.index_intervals.specs.declared.slice.SliceError.TheVariants as slice
use Rattle.step_forms.specs.declared.act.Act.TheVariants as act
use Rattle.step_forms.specs.declared.act.PerDim.TheVariants as per
use Rattle.step_forms.specs.declared.act.Slices.TheVariants as slices
use Rattle.step_forms.specs.Given.{number_for, part_for}

-- the dimension as it is
abbrev pub kept : Bounds → Cut
kept dim = record { dim = dim; offset = pos 0; stride = pos 1 }

-- a finite bound stays a finite index
abbrev pub can_move : ℤ → ℤ → Bool
can_move by x = not (is_index x) || is_index (x +ℤ by)

-- moved up by a number
abbrev pub moved_by : Bounds → ℤ → Result Cut Cause
moved_by dim by =
    if can_move by dim.lo && can_move by dim.hi then Ok (record { dim = shifted dim by; offset = neg_ℤ by; stride = pos 1 })
    else Err Overflow

-- moved so that the lower bound is this number
abbrev pub moved_to : Bounds → ℤ → Result Cut Cause
moved_to dim origin = if is_index dim.lo then moved_by dim (origin -ℤ dim.lo) else Err Unbounded

-- moved down by a number
abbrev pub moved_back : Bounds → ℤ → Result Cut Cause
moved_back dim by = moved_by dim (neg_ℤ by)

-- the numbers whose multiple by a stride lies in the interval
abbrev pub strided_by : Bounds → ℤ → Result Cut Cause
strided_by dim s = if int_eq s (pos 0) then Err ZeroStep else Ok (record { dim = strided dim s; offset = pos 0; stride = s })

-- why an interval has no such slice
abbrev pub slice_cause : SliceError → Cause
slice_cause slice.ZeroStep = ZeroStep
slice_cause slice.Unbounded = Unbounded
slice_cause slice.BadOrder = BadOrder
slice_cause (slice.OutOfRange lo hi) = OutOfRange lo hi

-- a slice of the interval
abbrev pub sliced_by : Bounds → SlicePart → Result Cut Cause
sliced_by dim part =
    elim (sliced dim part.start part.stop part.step)
    [ Ok s ↦ Ok (record { dim = s.interval; offset = s.offset; stride = s.step }) | Err e ↦ Err (slice_cause e) ]

-- a dimension without a number stays as it is
abbrev pub by_number : (Bounds → ℤ → Result Cut Cause) → Option ℤ → Bounds → Result Cut Cause
by_number f None dim = Ok (kept dim)
by_number f (Some number) dim = f dim number

-- what a step does to the dimension at a spot of the selection
abbrev pub cut_for : Act → ℕ → Bounds → Result Cut Cause
cut_for (act.TranslateTo by) spot dim = by_number moved_to (number_for by spot) dim
cut_for (act.TranslateBy by) spot dim = by_number moved_by (number_for by spot) dim
cut_for (act.TranslateBackwardBy by) spot dim = by_number moved_back (number_for by spot) dim
cut_for (act.Stride by) spot dim = by_number strided_by (number_for by spot) dim
cut_for (act.Slice by) spot dim = sliced_by dim (part_for by spot)
cut_for (act.Label labels) spot dim = Ok (kept dim)
cut_for (act.Transpose targets) spot dim = Ok (kept dim)
cut_for act.Diagonal spot dim = Ok (kept dim)
cut_for (act.At by) spot dim = Ok (kept dim)
cut_for (act.Oindex arrays) spot dim = Ok (kept dim)
cut_for (act.Vindex arrays) spot dim = Ok (kept dim)
cut_for act.Newaxis spot dim = Ok (kept dim)
cut_for (act.MarkBoundsImplicit lower upper) spot dim = Ok (kept dim)

-- a list has one item per selected dimension
abbrev pub per_dim_counts : PerDim → ℕ → Bool
per_dim_counts (per.All number) count = true
per_dim_counts (per.Each numbers) count = length numbers == count

abbrev pub slices_count : Slices → ℕ → Bool
slices_count (slices.All part) count = true
slices_count (slices.Each parts) count = length parts == count

abbrev pub cut_counts : Act → ℕ → Bool
cut_counts (act.TranslateTo by) count = per_dim_counts by count
cut_counts (act.TranslateBy by) count = per_dim_counts by count
cut_counts (act.TranslateBackwardBy by) count = per_dim_counts by count
cut_counts (act.Stride by) count = per_dim_counts by count
cut_counts (act.Slice by) count = slices_count by count
cut_counts (act.Label labels) count = true
cut_counts (act.Transpose targets) count = true
cut_counts act.Diagonal count = true
cut_counts (act.At by) count = true
cut_counts (act.Oindex arrays) count = true
cut_counts (act.Vindex arrays) count = true
cut_counts act.Newaxis count = true
cut_counts (act.MarkBoundsImplicit lower upper) count = true

-- the step acts on each dimension by itself
abbrev pub is_cut : Act → Bool
is_cut (act.Label labels) = false
is_cut (act.TranslateTo by) = true
is_cut (act.TranslateBy by) = true
is_cut (act.TranslateBackwardBy by) = true
is_cut (act.Stride by) = true
is_cut (act.Transpose targets) = false
is_cut act.Diagonal = false
is_cut (act.At by) = false
is_cut (act.Slice by) = true
is_cut (act.Oindex arrays) = false
is_cut (act.Vindex arrays) = false
is_cut act.Newaxis = false
is_cut (act.MarkBoundsImplicit lower upper) = false
