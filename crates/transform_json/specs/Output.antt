-- Output maps, from their members.
use Rattle.std.specs.Prelude.{ℕ, ◌+◌, nat_le, nat_lt, int_le, ℤ, pos, Bool, true, not, ◌&&◌, ◌||◌, if◌then◌else◌, List, [], ◌∷◌, ◌++◌, length, filter, codes, decimal, Option, Some, None, option_map, option_and_then, is_some, unwrap_or, Result, Ok}
use Rattle.std.specs.List.{list_all}
use Rattle.std.specs.Str.{bytes_eq}
use Rattle.serde_json.specs.Data.{Data}
use Rattle.serde_json.specs.Find.{get, as_object, as_number, as_u64, as_i64}
use Rattle.json_forms.specs.Numbers.{whole_number}
use Rattle.json_forms.specs.Lists.{list_items}
use Rattle.json_forms.specs.Members.{member_names, least_name}
use Rattle.index_intervals.specs.Bounds.{Bounds, minus_infinity, plus_infinity}
use Rattle.index_transform.specs.Identity.{identity_maps}
use Rattle.index_transform.specs.declared.map.OutMap.{OutMap}
use Rattle.index_transform.specs.declared.map.OutMap.TheVariants.{Constant, Strided, Indexed}
use Rattle.transform_json.specs.declared.arrays.IndexArray.{IndexArray}
use Rattle.transform_json.specs.declared.error.JsonError.{JsonError}
use Rattle.transform_json.specs.declared.member.EntryRange.{EntryRange}
use Rattle.transform_json.specs.Faults.{◌>>=◌, found_at, unless_faulty, no_fault}
use Rattle.transform_json.specs.Members.{has, where_so, is_text}
use Rattle.transform_json.specs.Arrays.{array_of}

-- a whole number of 64 bits with a sign
abbrev pub i64_number : Data → Option ℤ
i64_number d = option_and_then as_i64 (as_number d)

-- a dimension below the rank
abbrev pub dim_number : ℕ → Data → Option ℕ
dim_number rank d = option_and_then (λ n. where_so (nat_lt n rank) (Some n)) (option_and_then as_u64 (as_number d))

-- an end of a range of entries: a whole number or an infinity
abbrev pub range_end : Data → Option ℤ
range_end d =
    if is_text (codes "-inf") d then Some minus_infinity else (if is_text (codes "+inf") d then Some plus_infinity else whole_number d)

-- the least and the greatest entry that are allowed: a list of two
abbrev pub range_of_items : List Data → Option EntryRange
range_of_items [] = None
range_of_items (x ∷ []) = None
range_of_items (x ∷ y ∷ []) = option_and_then (λ least. option_map (λ greatest. record { least = least; greatest = greatest }) (range_end y)) (range_end x)
range_of_items (x ∷ y ∷ z ∷ items) = None

-- the same of a value
abbrev pub range_of : Data → Option EntryRange
range_of d = option_and_then range_of_items (list_items d)

-- the entry is allowed
abbrev pub is_in_range : EntryRange → ℤ → Bool
is_in_range range x = int_le range.least x && int_le x range.greatest

-- the index array of a map's member, whose entries keep the range that a further member allows
abbrev pub array_in : List Bounds → Data → Option IndexArray
array_in dims d =
    option_and_then (λ array. where_so (unwrap_or (option_map (λ range. list_all (is_in_range range) array.entries) (option_and_then range_of (get (codes "index_array_bounds") d))) true) (Some array))
    (option_and_then (array_of dims) (get (codes "index_array") d))

-- what a member of a map may be, by the rank and by whether there is a right index array
abbrev pub is_good : ℕ → Bool → Data → List ℕ → Bool
is_good rank indexed d name =
    if bytes_eq name (codes "index_array") then indexed
    else (if bytes_eq name (codes "index_array_bounds") then has d (codes "index_array") && is_some (option_and_then range_of (get name d))
    else (if bytes_eq name (codes "input_dimension") then not (has d (codes "index_array")) && is_some (option_and_then (dim_number rank) (get name d))
    else (if bytes_eq name (codes "offset") then is_some (option_and_then i64_number (get name d))
    else (bytes_eq name (codes "stride") && (has d (codes "index_array") || has d (codes "input_dimension")) && is_some (option_and_then i64_number (get name d))))))

-- the least member in byte order that isn't what it may be
abbrev pub faulty_member : ℕ → Bool → Data → Option (List ℕ)
faulty_member rank indexed d = least_name (filter (λ name. not (is_good rank indexed d name)) (member_names d))

-- the number of a member, or the one that counts where it isn't there
abbrev pub number_at : List ℕ → ℤ → Data → ℤ
number_at name usual d = unwrap_or (option_and_then i64_number (get name d)) usual

-- the map by an index array, by a dimension, or constant
abbrev pub map_by : ℤ → ℤ → Option IndexArray → Option ℕ → OutMap
map_by offset stride (Some array) dim = Indexed offset stride array.sizes array.entries
map_by offset stride None (Some dim) = Strided offset stride dim
map_by offset stride None None = Constant offset

-- the map of members that are what they may be
abbrev pub map_in : ℕ → Option IndexArray → Data → OutMap
map_in rank array d =
    map_by (number_at (codes "offset") (pos 0) d) (number_at (codes "stride") (pos 1) d) array
    (option_and_then (dim_number rank) (get (codes "input_dimension") d))

-- the map of a value at this path
abbrev pub map_of : List ℕ → List Bounds → Data → Result OutMap JsonError
map_of path dims d = do
  _ ← unless_faulty path (is_some (as_object d))
  _ ← no_fault (option_map (λ name. path ++ codes "/" ++ name) (faulty_member (length dims) (is_some (array_in dims d)) d))
  Ok (map_in (length dims) (array_in dims d) d)

-- the maps of values, of which the first has this number
abbrev pub maps_from : ℕ → List Bounds → List Data → Result (List OutMap) JsonError
maps_from output dims [] = Ok []
maps_from output dims (d ∷ ds) = map_of (codes "output/" ++ decimal output) dims d >>= (λ m. maps_from (output + 1) dims ds >>= (λ maps. Ok (m ∷ maps)))

-- the maps: at most 32, or the identity where none are given
abbrev pub maps_of : Data → List Bounds → Result (List OutMap) JsonError
maps_of d dims =
    if has d (codes "output")
    then found_at (codes "output") (option_and_then (λ items. where_so (nat_le (length items) 32) (Some items)) (option_and_then list_items (get (codes "output") d))) >>= maps_from 0 dims
    else Ok (identity_maps 0 dims)
