-- Steps that change labels and flags alone.
use Rattle.std.specs.Prelude.{ℕ, ◌==◌, Bool, false, not, ◌&&◌, ◌||◌, if◌then◌else◌, List, length, map, Option, Some, None, unwrap_or, Result, Ok, Err}
use Rattle.std.specs.List.{list_any, range_with_len}
use Rattle.index_intervals.specs.Bounds.{Bounds}
use Rattle.transform_composition.specs.Maps.{are_labels}
use Rattle.transform_composition.specs.declared.OutMap.{OutMap}
use Rattle.transform_composition.specs.Reading.{has_array_along}
use Rattle.transform_composition.specs.Transforms.{DomainAndMaps}
use Rattle.dim_changes.specs.declared.cause.Cause.{Cause}
use Rattle.dim_changes.specs.declared.cause.Cause.TheVariants.{Count, Label, IndexDim}
use Rattle.dim_changes.specs.Dims.{spot_in, dim_at, label_at}

-- the label of a dimension: a new one where it is selected
abbrev pub new_label : List (List ℕ) → List ℕ → List (List ℕ) → ℕ → List ℕ
new_label olds selected labels dim = elim (spot_in selected dim) [ Some spot ↦ label_at labels spot | None ↦ label_at olds dim ]

abbrev pub new_labels : DomainAndMaps → List ℕ → List (List ℕ) → List (List ℕ)
new_labels u selected labels = map (new_label u.domain.labels selected labels) (range_with_len 0 (length u.domain.dims))

abbrev pub with_labels : DomainAndMaps → List (List ℕ) → DomainAndMaps
with_labels u labels = record { domain = record { dims = u.domain.dims; labels = labels }; maps = u.maps }

-- the transform, unless a label is too long or comes twice
abbrev pub only_labels : DomainAndMaps → Result DomainAndMaps Cause
only_labels t = if are_labels t.domain.labels then Ok t else Err Label

-- `label`
abbrev pub label_answer : DomainAndMaps → List ℕ → List (List ℕ) → Result DomainAndMaps Cause
label_answer u selected labels =
    if not (length labels == length selected) then Err Count else only_labels (with_labels u (new_labels u selected labels))

-- the bounds with the flags that are given
abbrev pub marked : Option Bool → Option Bool → Bounds → Bounds
marked lower upper dim = record dim { lo_implicit = unwrap_or lower dim.lo_implicit; hi_implicit = unwrap_or upper dim.hi_implicit }

abbrev pub marked_dim : List Bounds → List ℕ → Option Bool → Option Bool → ℕ → Bounds
marked_dim dims selected lower upper dim =
    elim (spot_in selected dim) [ Some spot ↦ marked lower upper (dim_at dims dim) | None ↦ dim_at dims dim ]

abbrev pub with_marks : DomainAndMaps → List ℕ → Option Bool → Option Bool → DomainAndMaps
with_marks u selected lower upper = record {
  domain = record { dims = map (marked_dim u.domain.dims selected lower upper) (range_with_len 0 (length u.domain.dims)); labels = u.domain.labels };
  maps = u.maps;
}

-- an index array depends on one of the dimensions
abbrev pub has_array_on : List OutMap → List ℕ → Bool
has_array_on maps selected = list_any (λ dim. list_any (has_array_along dim) maps) selected

-- some bound becomes implicit
abbrev pub makes_implicit : Option Bool → Option Bool → Bool
makes_implicit lower upper = unwrap_or lower false || unwrap_or upper false

-- `mark_bounds_implicit`
abbrev pub mark_answer : DomainAndMaps → List ℕ → Option Bool → Option Bool → Result DomainAndMaps Cause
mark_answer u selected lower upper =
    if makes_implicit lower upper && has_array_on u.maps selected then Err IndexDim else Ok (with_marks u selected lower upper)
