-- An index array that was written is read again.
use Rattle.std.proofs.Common.{◌≡◌, ◌≤◌, ℕ, zero, suc, ◌+◌, ◌*◌, ℤ, pos, negsuc, ◌&&◌, Bool, true, not, List, [], ◌∷◌, ◌++◌, length, map, take, drop, get_or, Option, Some, None, refl, sym, ap, ◌∙◌, arith}
use Rattle.std.specs.Prelude.{option_map, option_and_then, ◌==◌, nat_le}
use Rattle.std.specs.List.{list_all, range_with_len}
use Rattle.std.proofs.Math.ListN.{drop_of_length-le}
use Rattle.std.proofs.lemmas.List.{length-take-le, length-drop, take-append-drop, drop-drop}
use Rattle.std.proofs.lemmas.List.FromFn.{length-map-range_with_len}
use Rattle.serde_json.specs.Data.{Data}
use Rattle.json_forms.specs.Numbers.{whole_number, integer}
use Rattle.json_forms.specs.Lists.{list_of, list_items, all_of}
use Rattle.json_forms.proofs.Laws.{data_list-items_of}
use Rattle.cells.specs.Places.{cell_count}
use Rattle.index_intervals.specs.Bounds.{Bounds, is_index}
use Rattle.index_transform.specs.Maps.{fits, are_entries}
use Rattle.transform_json.specs.Arrays.{sizes_below, nested_sizes, nested_entries, array_of}
use Rattle.transform_json.specs.Members.{where_so}
use Rattle.transform_json.specs.Written.{nested_data, are_some}
use Rattle.transform_json.proofs.Rows.{joined}
use Rattle.transform_json.proofs.Told.{eqb-of, eqb-true}
use Rattle.cells.proofs.Laws.{both}

-- the items of a list are those that it was made of
pub list_items-list_of : (ds : List Data) → list_items (list_of ds) ≡ Some ds
list_items-list_of ds = ap Some (data_list-items_of ds)

pub whole_number-integer : (z : ℤ) → whole_number (integer z) ≡ Some z
whole_number-integer (pos n) = refl
whole_number-integer (negsuc n) = refl

-- a row of nested lists
abbrev row_data : List ℕ → List ℤ → ℕ → Data
row_data sizes entries i = nested_data sizes (take (cell_count sizes) (drop (i * cell_count sizes) entries))

-- the sizes of what was written, whatever its entries
pub sizes_again : (sizes : List ℕ) (entries : List ℤ) → are_some sizes ≡ true → nested_sizes (length sizes) (nested_data sizes entries) ≡ Some sizes
sizes_again [] entries some = refl
sizes_again (zero ∷ sizes) entries some = absurd cc
sizes_again (suc n ∷ sizes) entries some =
    let rows : List Data = map (row_data sizes entries) (range_with_len 0 (suc n)) in
    let long : length rows ≡ suc n = length-map-range_with_len (row_data sizes entries) 0 (suc n) in
    ap (option_and_then (λ items. sizes_below (length sizes) (λ x. nested_sizes (length sizes) x) items)) (list_items-list_of rows)
    ∙ ap (option_map (λ ss. length rows ∷ ss)) (sizes_again sizes (take (cell_count sizes) (drop (0 * cell_count sizes) entries)) (both (not (suc n == 0)) (are_some sizes) some).1)
    ∙ ap (λ k. Some (k ∷ sizes)) long

-- what all entries are, those of a part are
all-take : (p : ℤ → Bool) (n : ℕ) (xs : List ℤ) → list_all p xs ≡ true → list_all p (take n xs) ≡ true
all-take p zero xs e = refl
all-take p (suc n) [] e = refl
all-take p (suc n) (x ∷ xs) e = let parts = both (p x) (list_all p xs) e in rw parts.0 (all-take p n xs parts.1)

all-drop : (p : ℤ → Bool) (n : ℕ) (xs : List ℤ) → list_all p xs ≡ true → list_all p (drop n xs) ≡ true
all-drop p zero xs e = e
all-drop p (suc n) [] e = refl
all-drop p (suc n) (x ∷ xs) e = all-drop p n xs (both (p x) (list_all p xs) e).1

abbrev IsAgain : List ℕ → Type 0
IsAgain sizes = (entries : List ℤ) → length entries ≡ cell_count sizes → list_all is_index entries ≡ true → nested_entries sizes (nested_data sizes entries) ≡ Some entries

rows_again : (sizes : List ℕ) (each : IsAgain sizes) (a n : ℕ) (entries : List ℤ) → length entries ≡ (a + n) * cell_count sizes → list_all is_index entries ≡ true
    → option_map joined (all_of (nested_entries sizes) (map (row_data sizes entries) (range_with_len a n))) ≡ Some (drop (a * cell_count sizes) entries)
rows_again sizes each a zero entries full good = ap Some (sym (drop_of_length-le entries (omega (arith, full))))
rows_again sizes each a (suc n) entries full good =
    let c : ℕ = cell_count sizes in
    let rest : List ℤ = drop (a * c) entries in
    let enough : c ≤ length rest = omega (arith, full, length-drop (a * c) entries) in
    let row : nested_entries sizes (row_data sizes entries a) ≡ Some (take c rest) = each (take c rest) (length-take-le c rest enough) (all-take is_index c rest (all-drop is_index (a * c) entries good)) in
    let more = rows_again sizes each (a + 1) n entries (full ∙ omega arith) good in
    let next : drop ((a + 1) * c) entries ≡ drop c rest = ap (λ k. drop k entries) (omega arith) ∙ sym (drop-drop c (a * c) entries) in
    ap (λ o. option_map joined (option_and_then (λ y. option_map (λ ys. y ∷ ys) (all_of (nested_entries sizes) (map (row_data sizes entries) (range_with_len (a + 1) n)))) o)) row
    ∙ before-joined (take c rest) (all_of (nested_entries sizes) (map (row_data sizes entries) (range_with_len (a + 1) n)))
    ∙ ap (option_map (λ es. take c rest ++ es)) more ∙ ap (λ es. Some (take c rest ++ es)) next ∙ ap Some (take-append-drop c rest)
  where
    before-joined : (row : List ℤ) (o : Option (List (List ℤ))) → option_map joined (option_map (λ ys. row ∷ ys) o) ≡ option_map (λ es. row ++ es) (option_map joined o)
    before-joined row None = refl
    before-joined row (Some rows) = refl

-- the entry of an array without dimensions
one_entry : (entries : List ℤ) → length entries ≡ 1 → get_or entries 0 (pos 0) ∷ [] ≡ entries
one_entry [] one = absurd (omega (arith, one))
one_entry (x ∷ []) one = refl
one_entry (x ∷ y ∷ entries) one = absurd (omega (arith, one))

-- the entries of what was written
pub entries_again : (sizes : List ℕ) → IsAgain sizes
entries_again [] entries full good =
    let x : ℤ = get_or entries 0 (pos 0) in
    let same = one_entry entries full in
    let index : is_index x ≡ true = (both (is_index x) true (ap (list_all is_index) same ∙ good)).0 in
    ap (option_and_then (λ y. where_so (is_index y) (Some (y ∷ [])))) (whole_number-integer x) ∙ ap (λ b. where_so b (Some (x ∷ []))) index ∙ ap Some same
entries_again (size ∷ sizes) entries full good =
    let rows : List Data = map (row_data sizes entries) (range_with_len 0 size) in
    let long : (length rows == size) ≡ true = eqb-true _ _ (length-map-range_with_len (row_data sizes entries) 0 size) in
    let none : 0 * cell_count sizes ≡ 0 = omega arith in
    ap (λ o. option_map joined (option_and_then (λ items. where_so (length items == size) (all_of (nested_entries sizes) items)) o)) (list_items-list_of rows)
    ∙ ap (λ b. option_map joined (where_so b (all_of (nested_entries sizes) rows))) long
    ∙ rows_again sizes (λ es f g. entries_again sizes es f g) 0 size entries (full ∙ omega arith) good
    ∙ ap (λ k. Some (drop k entries)) none

-- an index array that fits the dimensions
pub array_again : (dims : List Bounds) (sizes : List ℕ) (entries : List ℤ) → (fits dims sizes && are_entries sizes entries) ≡ true → are_some sizes ≡ true
    → array_of dims (nested_data sizes entries) ≡ Some (record { sizes = sizes; entries = entries })
array_again dims sizes entries good some =
    let fit = both (fits dims sizes) (are_entries sizes entries) good in
    let parts = both (nat_le (cell_count sizes) 4194304 && (length entries == cell_count sizes)) (list_all is_index entries) fit.1 in
    let count = both (nat_le (cell_count sizes) 4194304) (length entries == cell_count sizes) parts.0 in
    let rank : length dims ≡ length sizes = eqb-of (length dims) (length sizes) (both (length dims == length sizes) _ fit.0).0 in
    let found : nested_sizes (length dims) (nested_data sizes entries) ≡ Some sizes = ap (λ n. nested_sizes n (nested_data sizes entries)) rank ∙ sizes_again sizes entries some in
    let held = entries_again sizes entries (eqb-of (length entries) (cell_count sizes) count.1) parts.1 in
    ap (option_and_then (λ ss. where_so (fits dims ss) (where_so (nat_le (cell_count ss) 4194304) (option_map (λ es. record { sizes = ss; entries = es }) (nested_entries ss (nested_data sizes entries)))))) found
    ∙ ap (λ b. where_so b (where_so (nat_le (cell_count sizes) 4194304) (option_map (λ es. record { sizes = sizes; entries = es }) (nested_entries sizes (nested_data sizes entries))))) fit.0
    ∙ ap (λ b. where_so b (option_map (λ es. record { sizes = sizes; entries = es }) (nested_entries sizes (nested_data sizes entries)))) count.0
    ∙ ap (option_map (λ es. record { sizes = sizes; entries = es })) held
