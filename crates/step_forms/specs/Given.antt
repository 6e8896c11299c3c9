-- Steps that can be applied: what their numbers and selectors keep.
use Rattle.std.specs.Prelude.{ℕ, ℤ, pos, slice_index_or, Option, Some, None}
use Rattle.std.specs.Option.{ForSome}
use Rattle.index_intervals.specs.Bounds.{IsIndex}
use Rattle.step_forms.specs.declared.act.Act.{Act}
use Rattle.step_forms.specs.declared.act.PerDim.{PerDim}
use Rattle.step_forms.specs.declared.act.Slices.{Slices}
use Rattle.step_forms.specs.declared.act.SlicePart.{SlicePart}
use Rattle.step_forms.specs.declared.act.Step.{Step}
use Rattle.step_forms.specs.Selection.{AreSelectors}
use Rattle.step_forms.specs.declared.act.Act.TheVariants as act
use Rattle.step_forms.specs.declared.act.PerDim.TheVariants as per
use Rattle.step_forms.specs.declared.act.Slices.TheVariants as slices

-- the number for a selected dimension, by its spot in the selection
abbrev pub number_for : PerDim → ℕ → Option ℤ
number_for (per.All number) spot = Some number
number_for (per.Each numbers) spot = slice_index_or numbers spot None

abbrev pub no_part : SlicePart
no_part = record { start = None; stop = None; step = pos 1 }

abbrev pub part_for : Slices → ℕ → SlicePart
part_for (slices.All part) spot = part
part_for (slices.Each parts) spot = slice_index_or parts spot no_part

-- the numbers of a part are finite indices
pub record IsIndexPart (part : SlicePart) : Type 0 where
  pub start : ForSome part.start IsIndex
  pub stop : ForSome part.stop IsIndex
  pub step : IsIndex part.step

-- the numbers for the dimension at a spot of the selection are finite indices
abbrev pub HasIndicesAt : Act → ℕ → Type 0
HasIndicesAt (act.TranslateTo by) spot = ForSome (number_for by spot) IsIndex
HasIndicesAt (act.TranslateBy by) spot = ForSome (number_for by spot) IsIndex
HasIndicesAt (act.TranslateBackwardBy by) spot = ForSome (number_for by spot) IsIndex
HasIndicesAt (act.Stride by) spot = ForSome (number_for by spot) IsIndex
HasIndicesAt (act.Slice by) spot = IsIndexPart (part_for by spot)
HasIndicesAt (act.Label labels) spot = Unit {0}
HasIndicesAt (act.Transpose targets) spot = Unit {0}
HasIndicesAt act.Diagonal spot = Unit {0}
HasIndicesAt (act.At by) spot = Unit {0}
HasIndicesAt (act.Oindex arrays) spot = Unit {0}
HasIndicesAt (act.Vindex arrays) spot = Unit {0}
HasIndicesAt act.Newaxis spot = Unit {0}
HasIndicesAt (act.MarkBoundsImplicit lower upper) spot = Unit {0}

-- the step is one that JSON can give: its selectors are those of a step, and its numbers are finite indices
pub record IsGiven (step : Step) : Type 0 where
  pub selectors : AreSelectors step
  pub numbers : (spot : ℕ) → HasIndicesAt step.act spot
