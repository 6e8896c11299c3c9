-- The composition of two transforms: at an index vector the outer one's value at the inner one's value.
use Rattle.std.specs.Prelude.{ℕ, ◌+◌, nat_le, ℤ, pos, ◌+ℤ◌, ◌*ℤ◌, Bool, false, not, ◌||◌, if◌then◌else◌, List, [], ◌∷◌, map, slice_index_or, Option, Some, None, Result, Ok, Err}
use Rattle.std.specs.List.{list_any, position_from}
use Rattle.index_transform.specs.Places.{cell_count}
use Rattle.index_transform.specs.Bounds.{Bounds}
use Rattle.index_transform.specs.declared.map.OutMap.{OutMap}
use Rattle.index_transform.specs.declared.map.OutMap.TheVariants.{Constant, Strided, Indexed}
use Rattle.transform_composition.specs.declared.error.ComposeError.{ComposeError}
use Rattle.transform_composition.specs.declared.error.ComposeError.TheVariants.{Overflow, TooLarge}
use Rattle.index_transform.specs.Transforms.{DomainAndMaps}
pub use Rattle.index_transform.specs.Values.{is_word}
use Rattle.transform_composition.specs.Tightening.{tighten_answer}
use Rattle.transform_composition.specs.Reading.{has_array_along, read_sizes, read_entries}

-- the map of an output into which no inner map goes, which no transform has
abbrev pub nowhere : OutMap
nowhere = Constant (pos 0)

-- an outer offset and stride over an inner map: its form stays, offsets and strides are multiplied out
abbrev pub strided_over : ℤ → ℤ → OutMap → OutMap
strided_over o s (Constant p) = Constant (o +ℤ s *ℤ p)
strided_over o s (Strided p q dim) = Strided (o +ℤ s *ℤ p) (s *ℤ q) dim
strided_over o s (Indexed p q sizes entries) = Indexed (o +ℤ s *ℤ p) (s *ℤ q) sizes entries

-- an outer map, from the outer dimensions, over the maps of the inner transform, from its tightened dimensions
abbrev pub composed_map : List Bounds → List Bounds → List OutMap → OutMap → OutMap
composed_map outers dims inners (Constant o) = Constant o
composed_map outers dims inners (Strided o s from) = strided_over o s (slice_index_or inners from nowhere)
composed_map outers dims inners (Indexed o s sizes entries) =
    Indexed o s (read_sizes dims sizes inners) (read_entries outers sizes entries dims inners)

-- an offset or stride that is multiplied out passes 64 bits
abbrev pub passes_over : ℤ → ℤ → OutMap → Bool
passes_over o s (Constant p) = not (is_word (o +ℤ s *ℤ p))
passes_over o s (Strided p q dim) = not (is_word (o +ℤ s *ℤ p)) || not (is_word (s *ℤ q))
passes_over o s (Indexed p q sizes entries) = not (is_word (o +ℤ s *ℤ p)) || not (is_word (s *ℤ q))

abbrev pub passes_word : List OutMap → OutMap → Bool
passes_word inners (Constant o) = false
passes_word inners (Strided o s from) = passes_over o s (slice_index_or inners from nowhere)
passes_word inners (Indexed o s sizes entries) = false

-- the outer map's array, read at the inner values, would have more than 2^22 entries
abbrev pub is_too_large : List Bounds → List OutMap → OutMap → Bool
is_too_large dims inners (Constant o) = false
is_too_large dims inners (Strided o s from) = false
is_too_large dims inners (Indexed o s sizes entries) = not (nat_le (cell_count (read_sizes dims sizes inners)) 4194304)

-- explicit bounds
abbrev pub closed : Bounds → Bounds
closed dim = record dim { lo_implicit = false; hi_implicit = false }

-- the dimension of this number, explicit where an index array of a map depends on it
abbrev pub closed_along : ℕ → List OutMap → Bounds → Bounds
closed_along k maps dim = if list_any (has_array_along k) maps then closed dim else dim

abbrev pub closed_dims : ℕ → List Bounds → List OutMap → List Bounds
closed_dims k [] maps = []
closed_dims k (dim ∷ dims) maps = closed_along k maps dim ∷ closed_dims (k + 1) dims maps

-- the transform of the inner labels and dimensions, which are tightened, and the composed maps
abbrev pub joined : DomainAndMaps → DomainAndMaps → DomainAndMaps
joined outer inner =
    let maps = map (composed_map outer.domain.dims inner.domain.dims inner.maps) outer.maps in
    record { domain = record { dims = closed_dims 0 inner.domain.dims maps; labels = inner.domain.labels }; maps = maps }

abbrev pub unless_passed : Option ℕ → Result DomainAndMaps ComposeError → Result DomainAndMaps ComposeError
unless_passed None answer = answer
unless_passed (Some output) answer = Err (Overflow output)

abbrev pub unless_large : Option ℕ → DomainAndMaps → Result DomainAndMaps ComposeError
unless_large None t = Ok t
unless_large (Some output) t = Err (TooLarge output)

-- the transform over a tightened inner one, or the first reason against it
abbrev pub joined_answer : DomainAndMaps → DomainAndMaps → Result DomainAndMaps ComposeError
joined_answer outer inner =
    unless_passed (position_from (passes_word inner.maps) 0 outer.maps)
    (unless_large (position_from (is_too_large inner.domain.dims inner.maps) 0 outer.maps) (joined outer inner))

abbrev pub over_tightened : DomainAndMaps → Result DomainAndMaps ComposeError → Result DomainAndMaps ComposeError
over_tightened outer (Ok inner) = joined_answer outer inner
over_tightened outer (Err e) = Err e

-- the composition, or the first reason against it: the inner transform is tightened first
abbrev pub composed : DomainAndMaps → DomainAndMaps → Result DomainAndMaps ComposeError
composed outer inner = over_tightened outer (tighten_answer inner outer.domain)
