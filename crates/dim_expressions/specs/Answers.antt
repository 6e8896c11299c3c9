-- What a step on selected dimensions gives, and the old index vector of a new one.
use Rattle.std.specs.Prelude.{◌≡◌, ℕ, ◌<◌, ℤ, pos, List, [], slice_index_or, unwrap_or, None, Result, Ok, Err, IsTrue}
use Rattle.std.specs.List.{list_all}
use Rattle.index_intervals.specs.Bounds.{is_index}
use Rattle.index_transform.specs.Cells.{is_finite}
use Rattle.index_transform.specs.Transforms.{DomainAndMaps}
use Rattle.index_transform.specs.Values.{value_at, is_effective, first_outside}
use Rattle.index_transform.specs.Walks.{IsCell}
use Rattle.json_forms.specs.Lists.{all_of}
use Rattle.step_forms.specs.declared.act.Act.{Act}
use Rattle.dim_changes.specs.declared.cause.Cause.{Cause}
use Rattle.dim_changes.specs.declared.cause.Fault.{Fault}
use Rattle.dim_changes.specs.Causes.{IsFaultOf}
use Rattle.dim_changes.specs.Dims.{position_of, dim_at}
use Rattle.dim_changes.specs.CutViews.{cut_view, cut_answer}
use Rattle.dim_changes.specs.Marks.{label_answer, mark_answer}
use Rattle.dim_expressions.specs.Left.{rank_of}
use Rattle.dim_expressions.specs.At.{at_view, at_answer}
use Rattle.dim_expressions.specs.Diagonal.{diagonal_view, diagonal_answer}
use Rattle.dim_expressions.specs.Oindex.{oindex_view, oindex_answer}
use Rattle.dim_expressions.specs.Vindex.{vindex_view, vindex_answer}
use Rattle.dim_expressions.specs.Transpose.{transpose_view, transpose_answer}
use Rattle.dim_expressions.specs.Newaxis.{newaxis_view, newaxis_answer}
use Rattle.step_forms.specs.declared.act.Act.TheVariants as act

abbrev pub step_answer : DomainAndMaps → List ℕ → Act → Result DomainAndMaps Cause
step_answer u selected (act.Label labels) = label_answer u selected labels
step_answer u selected (act.TranslateTo by) = cut_answer u selected (act.TranslateTo by)
step_answer u selected (act.TranslateBy by) = cut_answer u selected (act.TranslateBy by)
step_answer u selected (act.TranslateBackwardBy by) = cut_answer u selected (act.TranslateBackwardBy by)
step_answer u selected (act.Stride by) = cut_answer u selected (act.Stride by)
step_answer u selected (act.Transpose targets) = transpose_answer u selected targets
step_answer u selected act.Diagonal = diagonal_answer u selected
step_answer u selected (act.At by) = at_answer u selected by
step_answer u selected (act.Slice by) = cut_answer u selected (act.Slice by)
step_answer u selected (act.Oindex arrays) = oindex_answer u selected arrays
step_answer u selected (act.Vindex arrays) = vindex_answer u selected arrays
step_answer u selected act.Newaxis = newaxis_answer u selected
step_answer u selected (act.MarkBoundsImplicit lower upper) = mark_answer u selected lower upper

-- the old index vector of a new one
abbrev pub old_index : DomainAndMaps → List ℕ → Act → List ℤ → List ℤ
old_index u selected (act.Label labels) index = index
old_index u selected (act.TranslateTo by) index = value_at (cut_view u selected (act.TranslateTo by)) index
old_index u selected (act.TranslateBy by) index = value_at (cut_view u selected (act.TranslateBy by)) index
old_index u selected (act.TranslateBackwardBy by) index = value_at (cut_view u selected (act.TranslateBackwardBy by)) index
old_index u selected (act.Stride by) index = value_at (cut_view u selected (act.Stride by)) index
old_index u selected (act.Transpose targets) index =
    value_at (transpose_view u selected (unwrap_or (all_of (position_of (rank_of u)) targets) [])) index
old_index u selected act.Diagonal index = value_at (diagonal_view u selected) index
old_index u selected (act.At by) index = value_at (at_view u selected by) index
old_index u selected (act.Slice by) index = value_at (cut_view u selected (act.Slice by)) index
old_index u selected (act.Oindex arrays) index = value_at (oindex_view u selected arrays) index
old_index u selected (act.Vindex arrays) index = value_at (vindex_view u selected arrays) index
old_index u selected act.Newaxis index = value_at (newaxis_view u selected) index
old_index u selected (act.MarkBoundsImplicit lower upper) index = index

-- a step's result has the domain, labels and maps of the step, and at each index vector between its bounds the old value at
-- the old index vector; where it is finite, the old effective domain has the old index vector of each cell, and in any case each
-- old index that is a finite one; under a stride that of the first index of an infinite dimension may be none
pub record IsStepped (u : DomainAndMaps) (selected : List ℕ) (a : Act) (t : DomainAndMaps) : Type 0 where
  pub answer : step_answer u selected a ≡ Ok t
  pub values : (index : List ℤ) → IsCell t.domain.dims index → value_at t index ≡ value_at u (old_index u selected a index)
  pub inside : IsTrue (list_all is_finite t.domain.dims) → (index : List ℤ) → IsCell t.domain.dims index
      → first_outside u.domain.dims (old_index u selected a index) ≡ None
  pub reached : (index : List ℤ) → IsCell t.domain.dims index → (k : ℕ) → k < rank_of u
      → IsTrue (is_index (slice_index_or (old_index u selected a index) k (pos 0)))
      → IsTrue (is_effective (dim_at u.domain.dims k) (slice_index_or (old_index u selected a index) k (pos 0)))

-- what comes of a step: its result, or the cause against it; there may be no memory at any time
abbrev pub IsOutcome : DomainAndMaps → List ℕ → Act → Result DomainAndMaps Fault → Type 0
IsOutcome u selected a (Ok t) = IsStepped u selected a t
IsOutcome u selected a (Err f) = IsFaultOf (step_answer u selected a) f
