-- Views at one place each of a new dimension.
use Rattle.std.specs.Prelude.{ℕ, ◌+◌, ◌<◌, ◌≤◌, nat_lt, ℤ, pos, ◌+ℤ◌, ◌-ℤ◌, false, if◌then◌else◌, List, [], ◌∷◌, length, map}
use Rattle.std.specs.List.{insert}
use Rattle.index_intervals.specs.Bounds.{Bounds}
use Rattle.index_transform.specs.Transforms.{DomainAndMaps}
use Rattle.index_transform.specs.declared.domain.Domain.{Domain}
use Rattle.index_transform.specs.declared.map.OutMap.{OutMap}
use Rattle.index_transform.specs.declared.map.OutMap.TheVariants.{Constant, Strided, Indexed}
use Rattle.stack_driver.specs.Changes.{under}
use Rattle.stack_driver.specs.Views.{own_transform}
use Rattle.stack_driver.specs.declared.view.View.{View}

-- so many indices from a number on, both bounds explicit
abbrev pub from_on : ℤ → ℕ → Bounds
from_on lo size = record { lo = lo; hi = lo +ℤ pos size -ℤ pos 1; lo_implicit = false; hi_implicit = false }

-- a domain with a new dimension without a label at the axis
abbrev pub with_axis : ℕ → Bounds → Domain → Domain
with_axis axis dim domain = record { dims = insert domain.dims axis dim; labels = insert domain.labels axis [] }

-- a map from the dimensions with a new one among them, on which it doesn't depend
abbrev pub placed_map : ℕ → OutMap → OutMap
placed_map axis (Constant offset) = Constant offset
placed_map axis (Strided offset stride dim) = Strided offset stride (if nat_lt dim axis then dim else dim + 1)
placed_map axis (Indexed offset stride sizes entries) = Indexed offset stride (insert sizes axis 1) entries

-- the map's dimension is one of 32, and its index array has a size for each dimension up to the axis
abbrev pub may_place : ℕ → OutMap → Type 0
may_place axis (Constant offset) = Unit {0}
may_place axis (Strided offset stride dim) = dim < 32
may_place axis (Indexed offset stride sizes entries) = axis ≤ length sizes

-- the transform over a new dimension that has this one index
abbrev pub placed_transform : ℕ → ℕ → DomainAndMaps → DomainAndMaps
placed_transform axis place t = record { domain = with_axis axis (from_on (pos place) 1) t.domain; maps = map (placed_map axis) t.maps }

abbrev pub placed_view : ℕ → ℕ → View → View
placed_view axis place v = under (placed_transform axis place (own_transform v)) v

-- each view at its place
abbrev pub placed_from : ℕ → ℕ → List View → List View
placed_from place axis [] = []
placed_from place axis (v ∷ vs) = placed_view axis place v ∷ placed_from (place + 1) axis vs
