-- Steps that cut each selected dimension by itself.
use Rattle.std.specs.Prelude.{ℕ, not, if◌then◌else◌, List, length, map, Option, Some, None, Result, Ok, Err}
use Rattle.std.specs.List.{enumerate_from, range_with_len}
use Rattle.index_intervals.specs.Bounds.{Bounds}
use Rattle.transform_composition.specs.Transforms.{DomainAndMaps}
use Rattle.transform_composition.specs.declared.OutMap.{OutMap}
use Rattle.transform_composition.specs.declared.OutMap.TheVariants.{Strided}
use Rattle.dim_changes.specs.declared.cause.Cause.{Cause}
use Rattle.dim_changes.specs.declared.cause.Cause.TheVariants.{Count}
use Rattle.dim_changes.specs.declared.cut.Cut.{Cut}
use Rattle.step_forms.specs.declared.act.Act.{Act}
use Rattle.dim_changes.specs.Dims.{spot_in, dim_at}
use Rattle.dim_changes.specs.Causes.{first_cause, unless_refused, over}
use Rattle.dim_changes.specs.Cuts.{kept, cut_for, cut_counts}

-- the causes at the selected dimensions, in the order of the selection
abbrev pub cause_at : Result Cut Cause → Option Cause
cause_at (Ok cut) = None
cause_at (Err c) = Some c

abbrev pub cut_causes : Act → List Bounds → List ℕ → List (Option Cause)
cut_causes a dims selected = map (λ p. cause_at (cut_for a p.0 (dim_at dims p.1))) (enumerate_from 0 selected)

-- the cut of a dimension; one that isn't selected stays as it is
abbrev pub cut_or_kept : Bounds → Result Cut Cause → Cut
cut_or_kept dim (Ok cut) = cut
cut_or_kept dim (Err c) = kept dim

abbrev pub cut_at : Act → List Bounds → List ℕ → ℕ → Cut
cut_at a dims selected dim =
    elim (spot_in selected dim)
    [ Some spot ↦ cut_or_kept (dim_at dims dim) (cut_for a spot (dim_at dims dim)) | None ↦ kept (dim_at dims dim) ]

-- the cuts of all dimensions, labels kept
abbrev pub cut_map : Act → List Bounds → List ℕ → ℕ → OutMap
cut_map a dims selected dim =
    let cut = cut_at a dims selected dim in
    Strided cut.offset cut.stride dim

abbrev pub cut_view : DomainAndMaps → List ℕ → Act → DomainAndMaps
cut_view u selected a =
    let numbers = range_with_len 0 (length u.domain.dims) in
    record {
      domain = record { dims = map (λ dim. (cut_at a u.domain.dims selected dim).dim) numbers; labels = u.domain.labels };
      maps = map (cut_map a u.domain.dims selected) numbers;
    }

-- what the step gives, or the cause against it
abbrev pub cut_answer : DomainAndMaps → List ℕ → Act → Result DomainAndMaps Cause
cut_answer u selected a =
    if not (cut_counts a (length selected)) then Err Count
    else unless_refused (first_cause (cut_causes a u.domain.dims selected)) (over u (cut_view u selected a))
