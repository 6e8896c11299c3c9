-- What a step does, as JSON.
use Rattle.std.specs.Prelude.{ℕ, ℤ, pos, List, [], ◌∷◌, length, codes, Bool, not, ◌&&◌, ◌==◌, Option, Some, None, option_map, is_some, unwrap_or}
use Rattle.std.specs.Ordering.{int_eq}
use Rattle.serde_json.specs.Data.{Data}
use Rattle.serde_json.specs.Find.{get, as_str, as_bool, as_object}
use Rattle.json_forms.specs.Members.{least_unknown}
use Rattle.step_forms.specs.Forms.{◌>>=◌, where_so, index_of, or_null, left_out_or, list_by}
use Rattle.step_forms.specs.declared.act.Select.{Select}
use Rattle.step_forms.specs.declared.act.Act.{Act}
use Rattle.step_forms.specs.declared.act.PerDim.{PerDim}
use Rattle.step_forms.specs.declared.act.Numbers.{Numbers}
use Rattle.step_forms.specs.declared.act.Slices.{Slices}
use Rattle.step_forms.specs.declared.act.SlicePart.{SlicePart}
use Rattle.step_forms.specs.declared.act.Select.TheVariants as select
use Rattle.step_forms.specs.declared.act.Act.TheVariants as act
use Rattle.step_forms.specs.declared.act.PerDim.TheVariants as per
use Rattle.step_forms.specs.declared.act.Numbers.TheVariants as numbers
use Rattle.step_forms.specs.declared.act.Slices.TheVariants as slices

-- an object with no other member than these
abbrev pub has_only : List (List ℕ) → Data → Bool
has_only names d = is_some (as_object d) && not (is_some (least_unknown names d))

-- the step of a range: 1 where it is left out, and never 0
abbrev pub step_or_one : Option ℤ → Option ℤ
step_or_one None = Some (pos 1)
step_or_one (Some z) = where_so (not (int_eq z (pos 0))) (Some z)

-- `{"start":INDEX,"stop":INDEX,"step":INDEX}`, each of which may be left out
abbrev pub range_of : Data → Option Select
range_of d = where_so (has_only (codes "start" ∷ codes "step" ∷ codes "stop" ∷ []) d) (do
  start ← left_out_or (λ v. option_map Some (index_of v)) (get (codes "start") d)
  stop ← left_out_or (λ v. option_map Some (index_of v)) (get (codes "stop") d)
  given ← left_out_or (λ v. option_map Some (index_of v)) (get (codes "step") d)
  step ← step_or_one given
  Some (select.Range start stop step))

-- a label, which isn't empty
abbrev pub label_of : List ℕ → Option Select
label_of text = where_so (not (length text == 0)) (Some (select.Label text))

-- a selector: a position, a label, or a range
abbrev pub selector_of : Data → Option Select
selector_of d = elim (index_of d) [ Some z ↦ Some (select.Position z) | None ↦ elim (as_str d) [ Some text ↦ label_of text | None ↦ range_of d ] ]

-- a list of texts, or one text
abbrev pub texts_of : Data → Option (List (List ℕ))
texts_of d = elim (as_str d) [ Some text ↦ Some (text ∷ []) | None ↦ list_by as_str d ]

-- a number for all, or a list of numbers and nulls
abbrev pub per_dim_of : Data → Option PerDim
per_dim_of d = elim (index_of d) [ Some z ↦ Some (per.All z) | None ↦ option_map per.Each (list_by (or_null index_of) d) ]

-- a number for all, or a list of numbers
abbrev pub numbers_of : Data → Option Numbers
numbers_of d = elim (index_of d) [ Some z ↦ Some (numbers.All z) | None ↦ option_map numbers.Each (list_by index_of d) ]

-- `{"start":INDEX,"stop":INDEX,"step":INDEX}`, each of which may be null or left out
abbrev pub slice_part_of : Data → Option SlicePart
slice_part_of d = where_so (has_only (codes "start" ∷ codes "step" ∷ codes "stop" ∷ []) d) (do
  start ← left_out_or (or_null index_of) (get (codes "start") d)
  stop ← left_out_or (or_null index_of) (get (codes "stop") d)
  step ← left_out_or (or_null index_of) (get (codes "step") d)
  Some (record { start = start; stop = stop; step = unwrap_or step (pos 1) }))

-- a part for all, or a list of parts
abbrev pub slices_of : Data → Option Slices
slices_of d = elim (as_object d) [ Some ms ↦ option_map slices.All (slice_part_of d) | None ↦ option_map slices.Each (list_by slice_part_of d) ]

-- true, and nothing else
abbrev pub only_true : Act → Data → Option Act
only_true a d = as_bool d >>= (λ b. where_so b (Some a))

-- two flags, of which null says nothing
abbrev pub two_flags : List (Option Bool) → Option Act
two_flags [] = None
two_flags (lower ∷ []) = None
two_flags (lower ∷ upper ∷ []) = Some (act.MarkBoundsImplicit lower upper)
two_flags (lower ∷ upper ∷ more ∷ flags) = None

-- one flag for both bounds, or a list of two
abbrev pub marks_of : Data → Option Act
marks_of d = elim (as_bool d) [ Some b ↦ Some (act.MarkBoundsImplicit (Some b) (Some b)) | None ↦ list_by (or_null as_bool) d >>= two_flags ]

-- the value of a member read as an act, or another where it isn't there
abbrev pub act_at : List ℕ → (Data → Option Act) → Option Act → Data → Option Act
act_at k f other d = elim (get k d) [ Some v ↦ f v | None ↦ other ]

-- what a step that takes indices out does
abbrev pub taking_act : Data → Option Act
taking_act d =
    act_at (codes "at") (λ v. option_map act.At (numbers_of v))
    (act_at (codes "slice") (λ v. option_map act.Slice (slices_of v))
    (act_at (codes "oindex") (λ v. option_map act.Oindex (list_by (list_by index_of) v))
    (act_at (codes "vindex") (λ v. option_map act.Vindex (list_by (list_by index_of) v))
    (act_at (codes "newaxis") (only_true act.Newaxis)
    (act_at (codes "mark_bounds_implicit") marks_of None d) d) d) d) d) d

-- what a step does: its one member that isn't `dims`
abbrev pub act_of : Data → Option Act
act_of d =
    act_at (codes "label") (λ v. option_map act.Label (texts_of v))
    (act_at (codes "translate_to") (λ v. option_map act.TranslateTo (per_dim_of v))
    (act_at (codes "translate_by") (λ v. option_map act.TranslateBy (per_dim_of v))
    (act_at (codes "translate_backward_by") (λ v. option_map act.TranslateBackwardBy (per_dim_of v))
    (act_at (codes "stride") (λ v. option_map act.Stride (per_dim_of v))
    (act_at (codes "transpose") (λ v. option_map act.Transpose (list_by index_of v))
    (act_at (codes "diagonal") (only_true act.Diagonal) (taking_act d) d) d) d) d) d) d) d
