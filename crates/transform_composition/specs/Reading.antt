-- An index array of an outer transform, read at the values of an inner one.
use Rattle.std.specs.Prelude.{ℕ, ◌+◌, ◌==◌, ℤ, pos, Bool, false, not, ◌&&◌, ◌||◌, if◌then◌else◌, List, [], ◌∷◌, map, slice_index_or}
use Rattle.std.specs.List.{zip, list_any, list_all}
use Rattle.index_transform.specs.Bounds.{Bounds}
use Rattle.index_transform.specs.declared.map.OutMap.{OutMap}
use Rattle.index_transform.specs.declared.map.OutMap.TheVariants.{Constant, Strided, Indexed}
use Rattle.index_transform.specs.Maps.{size_of}
use Rattle.index_transform.specs.Values.{entry_place, map_value, has_value, reaches}
use Rattle.index_transform.specs.Cells.{cells_of}

-- the map has an index array, and it depends on the dimension: its size along it isn't 1
abbrev pub has_array_along : ℕ → OutMap → Bool
has_array_along dim (Constant offset) = false
has_array_along dim (Strided offset stride from) = false
has_array_along dim (Indexed offset stride sizes entries) = not (slice_index_or sizes dim 1 == 1)

-- the map's number depends on the index along the dimension
abbrev pub depends_on : ℕ → OutMap → Bool
depends_on dim (Constant offset) = false
depends_on dim (Strided offset stride from) = from == dim
depends_on dim (Indexed offset stride sizes entries) = not (slice_index_or sizes dim 1 == 1)

-- an inner map that depends on the dimension goes into one on which the array of these sizes depends
abbrev pub is_read_along : List ℕ → List OutMap → ℕ → Bool
is_read_along sizes inners dim = list_any (λ p. not (p.0 == 1) && depends_on dim p.1) (zip sizes inners)

-- the one index 0
abbrev pub point : Bounds
point = record { lo = pos 0; hi = pos 0; lo_implicit = false; hi_implicit = false }

-- the dimension of this number, but only a point of it where the array isn't read along it
abbrev pub read_along : ℕ → List ℕ → List OutMap → Bounds → Bounds
read_along k sizes inners dim = if is_read_along sizes inners k then dim else point

abbrev pub read_dims : ℕ → List Bounds → List ℕ → List OutMap → List Bounds
read_dims k [] sizes inners = []
read_dims k (dim ∷ dims) sizes inners = read_along k sizes inners dim ∷ read_dims (k + 1) dims sizes inners

-- the sizes of the array that is read: that of a dimension along which it is, else 1
abbrev pub read_sizes : List Bounds → List ℕ → List OutMap → List ℕ
read_sizes dims sizes inners = map size_of (read_dims 0 dims sizes inners)

-- the entry that an array has at the values of maps
abbrev pub entry_over : List Bounds → List ℕ → List ℤ → List Bounds → List OutMap → List ℤ → ℤ
entry_over outers sizes entries dims inners cell =
    slice_index_or entries (entry_place outers sizes (map (map_value dims cell) inners)) (pos 0)

-- the entries at the values of maps, at each cell of the dimensions along which the array is read, in C order
abbrev pub read_entries : List Bounds → List ℕ → List ℤ → List Bounds → List OutMap → List ℤ
read_entries outers sizes entries dims inners = map (entry_over outers sizes entries dims inners) (cells_of (read_dims 0 dims sizes inners))

-- the array can be read at the values of maps, each of which is known where the array depends on it
abbrev pub can_read : List Bounds → List ℕ → List Bounds → List OutMap → List ℤ → Bool
can_read outers sizes dims inners cell =
    list_all (λ p. p.0 == 1 || has_value dims cell p.1) (zip sizes inners)
    && reaches outers sizes (map (map_value dims cell) inners)
