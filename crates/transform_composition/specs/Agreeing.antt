-- How the values of composed and of tightened transforms agree with those of their parts.
use Rattle.std.specs.Prelude.{◌≡◌, ℕ, ◌<◌, ℤ, pos, ◌≤ℤ◌, Bool, false, IsTrue, List, length, slice_index_or, None}
use Rattle.std.specs.List.{list_all, list_any}
use Rattle.index_transform.specs.Bounds.{Bounds}
use Rattle.index_transform.specs.declared.map.OutMap.{OutMap}
use Rattle.index_transform.specs.declared.map.OutMap.TheVariants.{Constant, Strided, Indexed}
use Rattle.index_transform.specs.Cells.{is_finite}
pub use Rattle.index_transform.specs.Identity.{identity_maps, identity_over}
use Rattle.transform_composition.specs.Reading.{is_read_along, point}
use Rattle.index_transform.specs.Transforms.{DomainAndMaps}
use Rattle.index_transform.specs.Values.{value_at, first_outside}
use Rattle.index_transform.specs.Walks.{IsCell}

-- the outer map has an index array that is read along the dimension
abbrev pub reads_along : ℕ → List OutMap → OutMap → Bool
reads_along dim inners (Constant offset) = false
reads_along dim inners (Strided offset stride from) = false
reads_along dim inners (Indexed offset stride sizes entries) = is_read_along sizes inners dim

-- along each dimension along which an outer index array is read, the index lies between the bounds
abbrev pub IsCovered : List Bounds → List OutMap → List OutMap → List ℤ → Type 0
IsCovered dims outers inners index =
    (dim : ℕ) → dim < length dims → IsTrue (list_any (reads_along dim inners) outers)
    → ((slice_index_or dims dim point).lo ≤ℤ slice_index_or index dim (pos 0)) × (slice_index_or index dim (pos 0) ≤ℤ (slice_index_or dims dim point).hi)

-- a composition has the outer value at the inner value
abbrev pub Agrees : DomainAndMaps → DomainAndMaps → DomainAndMaps → Type 0
Agrees t outer inner =
    (index : List ℤ) → length index ≡ length t.domain.dims → IsCovered t.domain.dims outer.maps inner.maps index
    → value_at t index ≡ value_at outer (value_at inner index)

-- the cells of a finite domain go into an outer domain: there each number is an effective member
abbrev pub GoesInto : List Bounds → DomainAndMaps → List Bounds → Type 0
GoesInto dims t outers = IsTrue (list_all is_finite dims) → (cell : List ℤ) → IsCell dims cell → first_outside outers (value_at t cell) ≡ None
