-- Along which dimension a stack's layers stand one behind another.
use Rattle.std.specs.Prelude.{◌≡◌, ◌<◌, ◌≤◌, ℕ, zero, suc, ◌+◌, ℤ, pos, ◌≤ℤ◌, int_le, int_lt, Bool, false, not, ◌&&◌, List, [], ◌∷◌, length, map, slice_index_or, Option, Some, None, if◌then◌else◌}
use Rattle.index_intervals.specs.Bounds.{Bounds}
use Rattle.stack_driver.specs.Reading.{point}
use Rattle.stack_driver.specs.Targets.{has_index}
use Rattle.stack_driver.specs.Views.{look_of}
use Rattle.stack_driver.specs.declared.view.View.{View}

-- a view's domain
abbrev pub dims_of : View → List Bounds
dims_of v = (look_of v).dims

-- a domain's interval along a dimension; the index 0 where it has no such dimension
abbrev pub along : ℕ → List Bounds → Bounds
along axis dims = slice_index_or dims axis point

-- the domains' intervals along a dimension
abbrev pub column : ℕ → List (List Bounds) → List Bounds
column axis domains = map (along axis) domains

-- an interval begins before another
abbrev pub begins_before : Bounds → Bounds → Bool
begins_before dim other = int_lt dim.lo other.lo

-- from this last interval on none begins before the one before it, and the last of all begins behind this first one
abbrev pub rise_from : Bounds → Bounds → List Bounds → Bool
rise_from first last [] = begins_before first last
rise_from first last (dim ∷ dims) = not (begins_before dim last) && rise_from first dim dims

-- none of the intervals begins before the one before it, and the last begins behind the first
abbrev pub rise : List Bounds → Bool
rise dims = rise_from (slice_index_or dims 0 point) (slice_index_or dims 0 point) dims

-- the first of so many dimensions from this one on along which the domains rise
abbrev pub axis_among : ℕ → ℕ → List (List Bounds) → Option ℕ
axis_among zero axis domains = None
axis_among (suc n) axis domains = if rise (column axis domains) then Some axis else axis_among n (axis + 1) domains

-- the first dimension along which domains of this rank rise
abbrev pub axis_of : ℕ → List (List Bounds) → Option ℕ
axis_of rank domains = axis_among rank 0 domains

-- where a view's domain begins along a dimension
abbrev pub begin_along : ℕ → View → ℤ
begin_along axis v = (along axis (dims_of v)).lo

-- along one of so many dimensions no layer begins before one that stands before it
pub record IsAxis (rank : ℕ) (layers : List View) (axis : ℕ) : Type 0 where
  pub below : axis < rank
  pub rises : (i j : ℕ) (v w : View) → i ≤ j → j < length layers
      → begin_along axis (slice_index_or layers i v) ≤ℤ begin_along axis (slice_index_or layers j w)

-- a view begins along a dimension at an index vector or before it
abbrev pub begins_by : ℕ → View → List ℤ → Bool
begins_by axis v index = int_le (begin_along axis v) (slice_index_or index axis (pos 0))

-- none of the layers from a place on has the index vector
abbrev pub LackIndex : ℕ → List View → List ℤ → Type 0
LackIndex place layers index =
    (k : ℕ) (v : View) → place ≤ k → k < length layers → has_index (dims_of (slice_index_or layers k v)) index ≡ false
