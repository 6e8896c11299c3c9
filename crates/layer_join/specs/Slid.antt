-- Views moved along an axis, each behind the one before it.
use Rattle.std.specs.Prelude.{ℕ, ◌==◌, ℤ, pos, ◌+ℤ◌, ◌-ℤ◌, ◌*ℤ◌, if◌then◌else◌, List, [], ◌∷◌, map, slice_index_or, slice_set}
use Rattle.index_intervals.specs.Bounds.{Bounds}
use Rattle.index_transform.specs.Transforms.{DomainAndMaps}
use Rattle.index_transform.specs.declared.map.OutMap.{OutMap}
use Rattle.index_transform.specs.declared.map.OutMap.TheVariants.{Constant, Strided, Indexed}
use Rattle.stack_driver.specs.Reading.{point}
use Rattle.stack_driver.specs.Changes.{under}
use Rattle.stack_driver.specs.Views.{Look, look_of, own_transform}
use Rattle.stack_driver.specs.declared.view.View.{View}

-- an interval moved by a number
abbrev pub slid : ℤ → Bounds → Bounds
slid by dim = record dim { lo = dim.lo +ℤ by; hi = dim.hi +ℤ by }

-- dimensions of which that of the axis is moved by a number
abbrev pub slid_dims : ℕ → ℤ → List Bounds → List Bounds
slid_dims axis by dims = slice_set dims axis (slid by (slice_index_or dims axis point))

-- an index vector with a shift along the axis taken off
abbrev pub slid_back : ℕ → ℤ → List ℤ → List ℤ
slid_back axis by index = slice_set index axis (slice_index_or index axis (pos 0) -ℤ by)

-- a view that is moved by a number along the axis, from outside: what was at an index vector is at the moved one
abbrev pub slid_look : ℕ → ℤ → Look → Look
slid_look axis by l = record { dims = slid_dims axis by l.dims; dtype = l.dtype; target = λ index. l.target (slid_back axis by index) }

-- the offset of a map that goes from the axis, once that is moved by a number
abbrev pub slid_offset : ℤ → ℤ → ℤ → ℤ
slid_offset by offset stride = offset -ℤ stride *ℤ by

-- a map from the moved dimensions; an index array keeps its entries, which count from the lower bound
abbrev pub slid_map : ℕ → ℤ → OutMap → OutMap
slid_map axis by (Constant offset) = Constant offset
slid_map axis by (Strided offset stride dim) = if dim == axis then Strided (slid_offset by offset stride) stride dim else Strided offset stride dim
slid_map axis by (Indexed offset stride sizes entries) = Indexed offset stride sizes entries

abbrev pub slid_transform : ℕ → ℤ → DomainAndMaps → DomainAndMaps
slid_transform axis by t = record {
  domain = record { dims = slid_dims axis by t.domain.dims; labels = t.domain.labels };
  maps = map (slid_map axis by) t.maps;
}

abbrev pub slid_view : ℕ → ℤ → View → View
slid_view axis by v = under (slid_transform axis by (own_transform v)) v

-- a view's interval along an axis
abbrev pub along : ℕ → View → Bounds
along axis v = slice_index_or (look_of v).dims axis point

-- by how much a view moves so that its lower bound on the axis comes to an index
abbrev pub shift_to : ℤ → ℕ → View → ℤ
shift_to next axis v = next -ℤ (along axis v).lo

-- the index behind its upper bound then
abbrev pub behind : ℤ → ℕ → View → ℤ
behind next axis v = (along axis v).hi +ℤ shift_to next axis v +ℤ pos 1

-- the shifts that put the lower bound of the first view at an index, and that of each further one right behind the moved
-- upper bound of the view before it
abbrev pub shifts_from : ℤ → ℕ → List View → List ℤ
shifts_from next axis [] = []
shifts_from next axis (v ∷ vs) = shift_to next axis v ∷ shifts_from (behind next axis v) axis vs

-- where the first of some views begins on the axis
abbrev pub start_of : ℕ → List View → ℤ
start_of axis [] = pos 0
start_of axis (v ∷ vs) = (along axis v).lo

-- the first view stays, each further one comes behind the one before it
abbrev pub shifts : ℕ → List View → List ℤ
shifts axis layers = shifts_from (start_of axis layers) axis layers
