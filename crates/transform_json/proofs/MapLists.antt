-- Maps that were read or made, and those that are left.
use Rattle.std.proofs.Common.{◌≡◌, ◌<◌, ◌≤◌, ℕ, ◌+◌, List, [], ◌∷◌, ◌++◌, length, map, drop, get_or, Result, Ok, Err, refl, sym, ap, ◌∙◌, append_assoc, append-nil, pos, false}
use Rattle.std.specs.Prelude.{codes, decimal}
use Rattle.std.proofs.lemmas.List.{drop_more}
use Rattle.std.proofs.Math.ListN.{drop_of_length-le}
use Rattle.serde_json.specs.View.{view}
use Rattle.serde_json.specs.declared.value.Value.{Value}
use Rattle.index_intervals.specs.Bounds.{Bounds}
use Rattle.index_transform.specs.Identity.{identity_maps}
use Rattle.index_transform.specs.declared.map.OutMap.{OutMap}
use Rattle.index_transform.specs.declared.map.OutMap.TheVariants.{Strided}
use Rattle.transform_json.specs.declared.error.JsonError.{JsonError}
use Rattle.transform_json.specs.Faults.{◌>>=◌}
use Rattle.transform_json.specs.Output.{map_of, maps_from}

-- the map before what comes of the rest
abbrev pub before : OutMap → Result (List OutMap) JsonError → Result (List OutMap) JsonError
before m r = r >>= (λ maps. Ok (m ∷ maps))

-- maps before what comes of the rest
abbrev pub onto : List OutMap → Result (List OutMap) JsonError → Result (List OutMap) JsonError
onto [] r = r
onto (m ∷ maps) r = before m (onto maps r)

onto-more : (maps : List OutMap) (m : OutMap) (r : Result (List OutMap) JsonError) → onto (maps ++ m ∷ []) r ≡ onto maps (before m r)
onto-more [] m r = refl
onto-more (n ∷ maps) m r = ap (before n) (onto-more maps m r)

onto-Err : (maps : List OutMap) (e : JsonError) → onto maps (Err e) ≡ Err e
onto-Err [] e = refl
onto-Err (n ∷ maps) e = ap (before n) (onto-Err maps e)

onto-Ok : (maps : List OutMap) → onto maps (Ok []) ≡ Ok maps
onto-Ok [] = refl
onto-Ok (n ∷ maps) = ap (before n) (onto-Ok maps)

-- maps that were read of the items before i, and what comes of the others, are what comes of all
abbrev pub IsRead : List Bounds → List Value → ℕ → List OutMap → Type 0
IsRead dims items i maps = onto maps (maps_from i dims (map view (drop i items))) ≡ maps_from 0 dims (map view items)

pub read_more : (dims : List Bounds) (items : List Value) (i : ℕ) (maps : List OutMap) (d : Value) (m : OutMap) → i < length items → map_of (codes "output/" ++ decimal i) dims (view (get_or items i d)) ≡ Ok m
    → IsRead dims items i maps → IsRead dims items (i + 1) (maps ++ m ∷ [])
read_more dims items i maps d m less is so =
    onto-more maps m (maps_from (i + 1) dims (map view (drop (i + 1) items)))
    ∙ sym (ap (λ vs. onto maps (maps_from i dims (map view vs))) (drop_more items i d less) ∙ ap (λ r. onto maps (r >>= (λ n. maps_from (i + 1) dims (map view (drop (i + 1) items)) >>= (λ ns. Ok (n ∷ ns))))) is) ∙ so

pub read_fault : (dims : List Bounds) (items : List Value) (i : ℕ) (maps : List OutMap) (d : Value) (e : JsonError) → i < length items → map_of (codes "output/" ++ decimal i) dims (view (get_or items i d)) ≡ Err e
    → IsRead dims items i maps → maps_from 0 dims (map view items) ≡ Err e
read_fault dims items i maps d e less is so =
    sym so ∙ ap (λ vs. onto maps (maps_from i dims (map view vs))) (drop_more items i d less) ∙ ap (λ r. onto maps (r >>= (λ n. maps_from (i + 1) dims (map view (drop (i + 1) items)) >>= (λ ns. Ok (n ∷ ns))))) is
    ∙ onto-Err maps e

pub read_all : (dims : List Bounds) (items : List Value) (i : ℕ) (maps : List OutMap) → length items ≤ i → IsRead dims items i maps → maps_from 0 dims (map view items) ≡ Ok maps
read_all dims items i maps past so = sym so ∙ ap (λ vs. onto maps (maps_from i dims (map view vs))) (drop_of_length-le items past) ∙ onto-Ok maps

-- maps that were made, and those of the other dimensions, are those of all
abbrev pub IsIdentity : List Bounds → ℕ → List OutMap → Type 0
IsIdentity dims dim maps = maps ++ identity_maps dim (drop dim dims) ≡ identity_maps 0 dims

pub identity_more : (dims : List Bounds) (dim : ℕ) (maps : List OutMap) → dim < length dims → IsIdentity dims dim maps → IsIdentity dims (dim + 1) (maps ++ Strided (pos 0) (pos 1) dim ∷ [])
identity_more dims dim maps less so =
    let d : Bounds = record { lo = pos 0; hi = pos 0; lo_implicit = false; hi_implicit = false } in
    append_assoc maps (Strided (pos 0) (pos 1) dim ∷ []) (identity_maps (dim + 1) (drop (dim + 1) dims))
    ∙ sym (ap (λ ds. maps ++ identity_maps dim ds) (drop_more dims dim d less)) ∙ so

pub identity_all : (dims : List Bounds) (dim : ℕ) (maps : List OutMap) → length dims ≤ dim → IsIdentity dims dim maps → maps ≡ identity_maps 0 dims
identity_all dims dim maps past so = sym (append-nil maps) ∙ sym (ap (λ ds. maps ++ identity_maps dim ds) (drop_of_length-le dims past)) ∙ so
