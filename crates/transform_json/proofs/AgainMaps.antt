-- Output maps that were written are read again.
use Rattle.std.proofs.Common.{◌≡◌, ℕ, suc, ◌+◌, ◌^◌, ℤ, pos, negsuc, Bool, true, false, not, cond, List, [], ◌∷◌, ◌++◌, length, map, Option, Some, None, Ok, refl, sym, ap, ◌∙◌, arith}
use Rattle.std.proofs.lemmas.Int.{ints}
use Rattle.std.proofs.lemmas.Bool.Decides.{Decides-int_eq}
use Rattle.std.specs.Prelude.{codes, decimal, nat_lt, is_some}
use Rattle.std.specs.List.{AllByRecursion, list_all}
use Rattle.std.specs.Ordering.{int_eq}
use Rattle.serde_json.specs.Data.{Data, Members, object, no_members, put}
use Rattle.serde_json.specs.Find.{as_object, as_i64, of_integer}
use Rattle.json_forms.specs.Numbers.{natural, integer}
use Rattle.index_intervals.specs.Bounds.{Bounds}
use Rattle.index_transform.specs.Maps.{is_map, is_plain, plain_map}
use Rattle.index_transform.specs.declared.map.OutMap.{OutMap}
use Rattle.index_transform.specs.declared.map.OutMap.TheVariants.{Constant, Strided, Indexed}
use Rattle.transform_json.specs.declared.arrays.IndexArray.{IndexArray}
use Rattle.transform_json.specs.Arrays.{array_of}
use Rattle.transform_json.specs.Faults.{◌>>=◌}
use Rattle.transform_json.specs.Output.{array_in, faulty_member, map_in, map_of, maps_from}
use Rattle.transform_json.specs.Written.{nested_data, map_data, has_sizes, IsWord, HasWords}
use Rattle.transform_json.proofs.AgainArrays.{array_again}
use Rattle.transform_json.proofs.Told.{leb-true}
use Rattle.cells.proofs.Laws.{both}

i64_again : (z : ℤ) → IsWord z → as_i64 (of_integer z) ≡ Some z
i64_again (pos n) word = let less : nat_lt n (2 ^ 63) ≡ true = leb-true (suc n) (2 ^ 63) (omega (arith, ints, word)) in rw less refl
i64_again (negsuc n) word = refl

map_again : (path : List ℕ) (dims : List Bounds) (d : Data) (o : Option IndexArray) (m : OutMap) → array_in dims d ≡ o → is_some (as_object d) ≡ true → faulty_member (length dims) (is_some o) d ≡ None
    → map_in (length dims) o d ≡ m → map_of path dims d ≡ Ok m
map_again path dims d o m array found good is = rw (found, array, good) (ap Ok is)

-- members with the numbers that aren't left out
abbrev numbers : Bool → Bool → ℤ → ℤ → Members
numbers b c offset stride = cond b (cond c no_members (put (codes "stride") (integer stride) no_members)) (put (codes "offset") (integer offset) (cond c no_members (put (codes "stride") (integer stride) no_members)))

abbrev Means : Bool → ℤ → ℤ → Type 0
Means b z usual = b ≡ true → z ≡ usual

constant_again : (path : List ℕ) (dims : List Bounds) (b : Bool) (offset : ℤ) → IsWord offset → Means b offset (pos 0)
    → map_of path dims (object (cond b no_members (put (codes "offset") (integer offset) no_members))) ≡ Ok (Constant offset)
constant_again path dims true offset word means = map_again path dims (object no_members) None (Constant offset) refl refl refl (ap Constant (sym (means refl)))
constant_again path dims false offset word means =
    let d : Data = object (put (codes "offset") (integer offset) no_members) in
    map_again path dims d None (Constant offset) refl refl (rw (i64_again offset word) refl) (rw (i64_again offset word) refl)

abbrev strided_data : Bool → Bool → ℤ → ℤ → ℕ → Data
strided_data b c offset stride dim = object (put (codes "input_dimension") (natural dim) (numbers b c offset stride))

strided-good : (b c : Bool) (rank : ℕ) (offset stride : ℤ) (dim : ℕ) → IsWord offset → IsWord stride → nat_lt dim rank ≡ true → faulty_member rank false (strided_data b c offset stride dim) ≡ None
strided-good true true rank offset stride dim w x less = rw less refl
strided-good true false rank offset stride dim w x less = rw (less, i64_again stride x) refl
strided-good false true rank offset stride dim w x less = rw (less, i64_again offset w) refl
strided-good false false rank offset stride dim w x less = rw (less, i64_again offset w, i64_again stride x) refl

strided-in : (b c : Bool) (rank : ℕ) (offset stride : ℤ) (dim : ℕ) → IsWord offset → IsWord stride → nat_lt dim rank ≡ true → Means b offset (pos 0) → Means c stride (pos 1)
    → map_in rank None (strided_data b c offset stride dim) ≡ Strided offset stride dim
strided-in true true rank offset stride dim w x less m n = rw (less, m refl, n refl) refl
strided-in true false rank offset stride dim w x less m n = rw (less, i64_again stride x, m refl) refl
strided-in false true rank offset stride dim w x less m n = rw (less, i64_again offset w, n refl) refl
strided-in false false rank offset stride dim w x less m n = rw (less, i64_again offset w, i64_again stride x) refl

strided_none : (b c : Bool) (dims : List Bounds) (offset stride : ℤ) (dim : ℕ) → array_in dims (strided_data b c offset stride dim) ≡ None
strided_none true true dims offset stride dim = refl
strided_none true false dims offset stride dim = refl
strided_none false true dims offset stride dim = refl
strided_none false false dims offset stride dim = refl

abbrev indexed_data : Bool → Bool → ℤ → ℤ → Data → Data
indexed_data b c offset stride nested = object (put (codes "index_array") nested (numbers b c offset stride))

indexed-good : (b c : Bool) (rank : ℕ) (offset stride : ℤ) (nested : Data) → IsWord offset → IsWord stride → faulty_member rank true (indexed_data b c offset stride nested) ≡ None
indexed-good true true rank offset stride nested w x = refl
indexed-good true false rank offset stride nested w x = rw (i64_again stride x) refl
indexed-good false true rank offset stride nested w x = rw (i64_again offset w) refl
indexed-good false false rank offset stride nested w x = rw (i64_again offset w, i64_again stride x) refl

indexed-in : (b c : Bool) (rank : ℕ) (offset stride : ℤ) (nested : Data) (a : IndexArray) → IsWord offset → IsWord stride → Means b offset (pos 0) → Means c stride (pos 1)
    → map_in rank (Some a) (indexed_data b c offset stride nested) ≡ Indexed offset stride a.sizes a.entries
indexed-in true true rank offset stride nested a w x m n = rw (m refl, n refl) refl
indexed-in true false rank offset stride nested a w x m n = rw (i64_again stride x, m refl) refl
indexed-in false true rank offset stride nested a w x m n = rw (i64_again offset w, n refl) refl
indexed-in false false rank offset stride nested a w x m n = rw (i64_again offset w, i64_again stride x) refl

indexed_some : (b c : Bool) (dims : List Bounds) (offset stride : ℤ) (nested : Data) (a : IndexArray) → array_of dims nested ≡ Some a → array_in dims (indexed_data b c offset stride nested) ≡ Some a
indexed_some true true dims offset stride nested a is = rw is refl
indexed_some true false dims offset stride nested a is = rw is refl
indexed_some false true dims offset stride nested a is = rw is refl
indexed_some false false dims offset stride nested a is = rw is refl

means : (z usual : ℤ) → Means (int_eq z usual) z usual
means z usual e = (Decides-int_eq z usual).0 e

-- a map without an empty array
pub one_again : (path : List ℕ) (dims : List Bounds) (m : OutMap) → is_map dims m ≡ true → HasWords m → has_sizes m ≡ true → map_of path dims (map_data m) ≡ Ok m
one_again path dims (Constant offset) from words some = constant_again path dims (int_eq offset (pos 0)) offset words (means offset (pos 0))
one_again path dims (Strided offset stride dim) from words some =
    let b : Bool = int_eq offset (pos 0) in
    let c : Bool = int_eq stride (pos 1) in
    map_again path dims (strided_data b c offset stride dim) None (Strided offset stride dim) (strided_none b c dims offset stride dim) refl (strided-good b c (length dims) offset stride dim words.0 words.1 from)
    (strided-in b c (length dims) offset stride dim words.0 words.1 from (means offset (pos 0)) (means stride (pos 1)))
one_again path dims (Indexed offset stride sizes entries) from words some =
    let b : Bool = int_eq offset (pos 0) in
    let c : Bool = int_eq stride (pos 1) in
    let a : IndexArray = record { sizes = sizes; entries = entries } in
    map_again path dims (indexed_data b c offset stride (nested_data sizes entries)) (Some a) (Indexed offset stride sizes entries)
    (indexed_some b c dims offset stride (nested_data sizes entries) a (array_again dims sizes entries from some)) refl (indexed-good b c (length dims) offset stride (nested_data sizes entries) words.0 words.1)
    (indexed-in b c (length dims) offset stride (nested_data sizes entries) a words.0 words.1 (means offset (pos 0)) (means stride (pos 1)))

pub maps_again : (output : ℕ) (dims : List Bounds) (maps : List OutMap) → list_all (is_map dims) maps ≡ true → AllByRecursion HasWords maps → list_all has_sizes maps ≡ true
    → maps_from output dims (map map_data maps) ≡ Ok maps
maps_again output dims [] from words some = refl
maps_again output dims (m ∷ maps) from words some =
    let from_each = both (is_map dims m) (list_all (is_map dims) maps) from in
    let some_each = both (has_sizes m) (list_all has_sizes maps) some in
    ap (λ r. r >>= (λ n. maps_from (output + 1) dims (map map_data maps) >>= (λ ns. Ok (n ∷ ns)))) (one_again (codes "output/" ++ decimal output) dims m from_each.0 words.0 some_each.0)
    ∙ ap (λ r. r >>= (λ ns. Ok (m ∷ ns))) (maps_again (output + 1) dims maps from_each.1 words.1 some_each.1)

-- without a stride of 0 no map becomes constant
pub plain_again : (maps : List OutMap) → list_all is_plain maps ≡ true → map plain_map maps ≡ maps
plain_again [] plain = refl
plain_again (m ∷ maps) plain =
    let parts = both (is_plain m) (list_all is_plain maps) plain in
    ap (λ n. n ∷ map plain_map maps) (one m parts.0) ∙ ap (λ ns. m ∷ ns) (plain_again maps parts.1)
  where
    by : (b : Bool) (n m : OutMap) → not b ≡ true → cond b n m ≡ m
    by true n m e = absurd cc
    by false n m e = refl

    one : (m : OutMap) → is_plain m ≡ true → plain_map m ≡ m
    one (Constant offset) e = refl
    one (Strided offset stride dim) e = by (int_eq stride (pos 0)) (Constant offset) (Strided offset stride dim) e
    one (Indexed offset stride sizes entries) e = by (int_eq stride (pos 0)) (Constant offset) (Indexed offset stride sizes entries) e
