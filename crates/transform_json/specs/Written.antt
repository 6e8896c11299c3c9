-- The written forms of domains and transforms.
use Rattle.std.specs.Prelude.{ℕ, ◌*◌, ◌==◌, ◌≤◌, ℤ, pos, ◌+ℤ◌, ◌<ℤ◌, Bool, true, not, if◌then◌else◌, List, [], ◌∷◌, length, take, drop, map, codes, slice_index_or, unwrap_or}
use Rattle.std.specs.List.{list_all, position_from, range_with_len}
use Rattle.std.specs.Ordering.{int_eq}
use Rattle.serde_json.specs.Data.{Data, Members, string, object, no_members, put}
use Rattle.json_forms.specs.Numbers.{natural, integer}
use Rattle.json_forms.specs.Lists.{list_of}
use Rattle.cells.specs.Places.{cell_count}
use Rattle.index_intervals.specs.Bounds.{Bounds, minus_infinity, plus_infinity}
use Rattle.index_transform.specs.Transforms.{DomainAndMaps}
use Rattle.index_transform.specs.declared.domain.Domain.{Domain}
use Rattle.index_transform.specs.declared.map.OutMap.{OutMap}
use Rattle.index_transform.specs.declared.map.OutMap.TheVariants.{Constant, Strided, Indexed}

-- an implicit bound stands in a list of its own
abbrev pub flagged : Bool → Data → Data
flagged implicit d = if implicit then list_of (d ∷ []) else d

-- the inclusive lower bound: a number, or "-inf"
abbrev pub lower_data : Bounds → Data
lower_data dim = flagged dim.lo_implicit (if int_eq dim.lo minus_infinity then string (codes "-inf") else integer dim.lo)

-- the exclusive upper bound: a number, or "+inf"
abbrev pub upper_data : Bounds → Data
upper_data dim = flagged dim.hi_implicit (if int_eq dim.hi plus_infinity then string (codes "+inf") else integer (dim.hi +ℤ pos 1))

-- no label has a byte
abbrev pub are_unlabelled : List (List ℕ) → Bool
are_unlabelled labels = list_all (λ label. length label == 0) labels

-- the members, and labels where some label isn't empty
abbrev pub with_labels : List ℕ → List (List ℕ) → Members → Members
with_labels name labels members = if are_unlabelled labels then members else put name (list_of (map string labels)) members

-- a domain: `exclusive_max`, `inclusive_min`, `labels`
abbrev pub domain_data : Domain → Data
domain_data domain = object
    (put (codes "exclusive_max") (list_of (map upper_data domain.dims))
    (put (codes "inclusive_min") (list_of (map lower_data domain.dims))
    (with_labels (codes "labels") domain.labels no_members)))

-- the members, and a number unless it is the one that counts where none stands
abbrev pub with_number : List ℕ → ℤ → ℤ → Members → Members
with_number name usual number members = if int_eq number usual then members else put name (integer number) members

-- the entries of an index array as nested lists of these sizes
abbrev pub nested_data : List ℕ → List ℤ → Data
nested_data [] entries = integer (slice_index_or entries 0 (pos 0))
nested_data (size ∷ sizes) entries = list_of (map (λ i. nested_data sizes (take (cell_count sizes) (drop (i * cell_count sizes) entries))) (range_with_len 0 size))

-- an index array has an entry per cell of its sizes
abbrev pub has_entries : OutMap → Bool
has_entries (Constant offset) = true
has_entries (Strided offset stride dim) = true
has_entries (Indexed offset stride sizes entries) = length entries == cell_count sizes

-- an output map: `index_array`, `input_dimension`, `offset`, `stride`
abbrev pub map_data : OutMap → Data
map_data (Constant offset) = object (with_number (codes "offset") (pos 0) offset no_members)
map_data (Strided offset stride dim) =
    object (put (codes "input_dimension") (natural dim) (with_number (codes "offset") (pos 0) offset (with_number (codes "stride") (pos 1) stride no_members)))
map_data (Indexed offset stride sizes entries) =
    object (put (codes "index_array") (nested_data sizes entries) (with_number (codes "offset") (pos 0) offset (with_number (codes "stride") (pos 1) stride no_members)))

-- a transform: `input_exclusive_max`, `input_inclusive_min`, `input_labels`, `input_rank`, `output`
abbrev pub transform_data : DomainAndMaps → Data
transform_data t = object
    (put (codes "input_exclusive_max") (list_of (map upper_data t.domain.dims))
    (put (codes "input_inclusive_min") (list_of (map lower_data t.domain.dims))
    (with_labels (codes "input_labels") t.domain.labels
    (put (codes "input_rank") (natural (length t.domain.dims)) (put (codes "output") (list_of (map map_data t.maps)) no_members)))))

-- no size is 0
abbrev pub are_some : List ℕ → Bool
are_some sizes = list_all (λ size. not (size == 0)) sizes

-- an index array has no size of 0
abbrev pub has_sizes : OutMap → Bool
has_sizes (Constant offset) = true
has_sizes (Strided offset stride dim) = true
has_sizes (Indexed offset stride sizes entries) = are_some sizes

-- a number below 2^63
abbrev pub IsWord : ℤ → Type 0
IsWord z = z <ℤ pos 9223372036854775808

-- the numbers of a map are below 2^63
abbrev pub HasWords : OutMap → Type 0
HasWords (Constant offset) = IsWord offset
HasWords (Strided offset stride dim) = IsWord offset × IsWord stride
HasWords (Indexed offset stride sizes entries) = IsWord offset × IsWord stride

-- the sizes before the first that is 0
abbrev pub before_zero : List ℕ → List ℕ
before_zero sizes = take (unwrap_or (position_from (λ size. size == 0) 0 sizes) (length sizes)) sizes

-- an index array takes 2^22 nested lists at most where a size of 0 ends them
abbrev pub HasFewLists : OutMap → Type 0
HasFewLists (Constant offset) = Unit {0}
HasFewLists (Strided offset stride dim) = Unit {0}
HasFewLists (Indexed offset stride sizes entries) = cell_count (before_zero sizes) ≤ 4194304
