-- When a map goes from a domain, and when labels are those of one.
use Rattle.std.specs.Prelude.{ℕ, ◌==◌, nat_lt, nat_le, nat_eq, ℤ, pos, Bool, true, not, ◌&&◌, ◌||◌, if◌then◌else◌, List, [], ◌∷◌, length}
use Rattle.std.specs.List.{zip, list_all, list_any}
use Rattle.std.specs.Ordering.{int_eq}
use Rattle.std.specs.Cmp.Lexicographic.{pointwise}
use Rattle.cells.specs.Places.{cell_count}
use Rattle.index_intervals.specs.Bounds.{Bounds, is_index}
pub use Rattle.index_intervals.specs.Members.{size_of}
use Rattle.index_transform.specs.declared.domain.Domain.{Domain}
use Rattle.index_transform.specs.declared.map.OutMap.{OutMap}
use Rattle.index_transform.specs.declared.map.OutMap.TheVariants.{Constant, Strided, Indexed}

-- explicit finite bounds
abbrev pub is_fixed : Bounds → Bool
is_fixed dim = not dim.lo_implicit && not dim.hi_implicit && is_index dim.lo && is_index dim.hi

-- an index array's size along a dimension is 1, or that of the dimension, whose bounds are explicit and finite
abbrev pub fits_dim : Bounds → ℕ → Bool
fits_dim dim size = size == 1 || (is_fixed dim && size == size_of dim)

-- an index array has a size per dimension that fits it
abbrev pub fits : List Bounds → List ℕ → Bool
fits dims sizes = (length dims == length sizes) && list_all (λ p. fits_dim p.0 p.1) (zip dims sizes)

-- the entries of an index array: one finite index per cell of its sizes, 2^22 at most
abbrev pub are_entries : List ℕ → List ℤ → Bool
are_entries sizes entries = nat_le (cell_count sizes) 4194304 && (length entries == cell_count sizes) && list_all is_index entries

-- the map goes from these dimensions
abbrev pub is_map : List Bounds → OutMap → Bool
is_map dims (Constant offset) = true
is_map dims (Strided offset stride dim) = nat_lt dim (length dims)
is_map dims (Indexed offset stride sizes entries) = fits dims sizes && are_entries sizes entries

-- a stride of 0 makes a constant map
abbrev pub plain_map : OutMap → OutMap
plain_map (Constant offset) = Constant offset
plain_map (Strided offset stride dim) = if int_eq stride (pos 0) then Constant offset else Strided offset stride dim
plain_map (Indexed offset stride sizes entries) = if int_eq stride (pos 0) then Constant offset else Indexed offset stride sizes entries

-- the map has no stride of 0
abbrev pub is_plain : OutMap → Bool
is_plain (Constant offset) = true
is_plain (Strided offset stride dim) = not (int_eq stride (pos 0))
is_plain (Indexed offset stride sizes entries) = not (int_eq stride (pos 0))

-- each label has at most 64 bytes, and one that has any doesn't come again
abbrev pub are_labels : List (List ℕ) → Bool
are_labels [] = true
are_labels (label ∷ labels) =
    nat_le (length label) 64
    && (length label == 0 || not (list_any (λ other. pointwise nat_eq other label) labels))
    && are_labels labels

-- one label per dimension, at most 32 dimensions and 32 outputs
abbrev pub has_ranks : Domain → List OutMap → Bool
has_ranks domain maps = nat_le (length domain.dims) 32 && (length domain.labels == length domain.dims) && nat_le (length maps) 32
