-- Dimensions that stay infinite: maps are composed over an empty interval in their place.
use Rattle.std.specs.Prelude.{◌≡◌, ℕ, pos, negsuc, Bool, false, not, ◌&&◌, if◌then◌else◌, List, length, map, Ok}
use Rattle.std.specs.List.{range_with_len}
use Rattle.index_intervals.specs.Bounds.{Bounds}
use Rattle.index_intervals.specs.Members.{is_finite}
use Rattle.transform_composition.specs.Transforms.{DomainAndMaps}
use Rattle.transform_composition.specs.Agreeing.{Agrees, GoesInto}
use Rattle.step_forms.specs.declared.act.Act.{Act}
use Rattle.dim_changes.specs.Causes.{over}
use Rattle.dim_changes.specs.Dims.{dim_at}
use Rattle.dim_changes.specs.CutViews.{cut_at, cut_view}

-- a dimension is infinite before a step and after it
abbrev pub stays_infinite : Bounds → Bounds → Bool
stays_infinite old new = not (is_finite old) && not (is_finite new)

-- an interval without an index
abbrev pub empty_dim : Bounds
empty_dim = record { lo = pos 0; hi = negsuc 0; lo_implicit = false; hi_implicit = false }

-- the dimension over which maps are composed
abbrev pub emptied : Bounds → Bounds → Bounds
emptied old new = if stays_infinite old new then empty_dim else new

-- the dimension of the result: as the step gives it where it stays infinite, else as composing left it
abbrev pub refilled : Bounds → Bounds → Bounds → Bounds
refilled old new composed = if stays_infinite old new then new else composed

abbrev pub emptied_dim : Act → List Bounds → List ℕ → ℕ → Bounds
emptied_dim a dims selected k = emptied (dim_at dims k) (cut_at a dims selected k).dim

abbrev pub emptied_view : DomainAndMaps → List ℕ → Act → DomainAndMaps
emptied_view u selected a = record {
  domain = record { dims = map (emptied_dim a u.domain.dims selected) (range_with_len 0 (length u.domain.dims)); labels = u.domain.labels };
  maps = (cut_view u selected a).maps;
}

abbrev pub refilled_dim : Act → List Bounds → List ℕ → List Bounds → ℕ → Bounds
refilled_dim a dims selected composed k = refilled (dim_at dims k) (cut_at a dims selected k).dim (dim_at composed k)

abbrev pub refilled_dims : Act → List Bounds → List ℕ → List Bounds → List Bounds
refilled_dims a dims selected composed = map (refilled_dim a dims selected composed) (range_with_len 0 (length dims))

-- composing over the emptied dimensions gave this transform
pub record IsComposed (u : DomainAndMaps) (selected : List ℕ) (a : Act) (t : DomainAndMaps) : Type 0 where
  pub answer : over u (emptied_view u selected a) ≡ Ok t
  pub agrees : Agrees t u (emptied_view u selected a)
  pub inside : GoesInto t.domain.dims (emptied_view u selected a) u.domain.dims
