-- Whether the numbers of a transform lie inside a shape.
use Rattle.std.specs.Prelude.{ℕ, ℤ, pos, ◌+ℤ◌, ◌*ℤ◌, ◌≤ℤ◌, ◌<ℤ◌, int_le, int_lt, Bool, not, ◌&&◌, ◌||◌, List, [], ◌∷◌, map, slice_index_or, Option}
use Rattle.std.specs.List.{list_any, zip, position_from}
use Rattle.index_intervals.specs.Bounds.{Bounds}
use Rattle.index_transform.specs.declared.map.OutMap.{OutMap}
use Rattle.index_transform.specs.declared.map.OutMap.TheVariants.{Constant, Strided, Indexed}
use Rattle.index_transform.specs.Cells.{cells_of}
use Rattle.index_transform.specs.Transforms.{DomainAndMaps}
use Rattle.index_transform.specs.Values.{map_value}

-- the index vector lies inside the shape: one index per size, from 0 on and below it
abbrev pub IsInShape : List ℕ → List ℤ → Type 0
IsInShape [] [] = Unit {0}
IsInShape [] (x ∷ index) = ⊥
IsInShape (size ∷ shape) [] = ⊥
IsInShape (size ∷ shape) (x ∷ index) = (pos 0 ≤ℤ x) × (x <ℤ pos size) × IsInShape shape index

-- the number is an index below the size
abbrev pub is_below : ℕ → ℤ → Bool
is_below size x = int_le (pos 0) x && int_lt x (pos size)

-- at some cell the map's number is no index below the size
abbrev pub leaves : List Bounds → ℕ → OutMap → Bool
leaves dims size m = list_any (λ cell. not (is_below size (map_value dims cell m))) (cells_of dims)

-- the first output that leaves its size at some cell
abbrev pub first_leaving : DomainAndMaps → List ℕ → Option ℕ
first_leaving t shape = position_from (λ p. leaves t.domain.dims p.0 p.1) 0 (zip shape t.maps)

-- the same seen at the ends of a strided map and at the entries of an array, where the domain has a cell
abbrev pub ends_leave : List Bounds → ℕ → OutMap → Bool
ends_leave dims size (Constant offset) = not (is_below size offset)
ends_leave dims size (Strided offset stride dim) =
    not (is_below size (offset +ℤ stride *ℤ slice_index_or (map (λ d. d.lo) dims) dim (pos 0)))
    || not (is_below size (offset +ℤ stride *ℤ slice_index_or (map (λ d. d.hi) dims) dim (pos 0)))
ends_leave dims size (Indexed offset stride sizes entries) = list_any (λ x. not (is_below size (offset +ℤ stride *ℤ x))) entries
