-- Rows of nested lists that were put, and those that are left.
use Rattle.std.proofs.Common.{◌≡◌, ◌≢◌, Bool, false, subst, if◌then◌else◌, ℕ, zero, suc, ◌+◌, ◌-◌, ◌<◌, ◌≤◌, ℤ, List, [], ◌∷◌, ◌++◌, map, length, get_or, drop, replicate, true, Option, Some, None, option_map, refl, sym, ap, ◌∙◌, append_assoc, append-nil, add-one, drop-cons, arith}
use Rattle.std.proofs.Math.ListN.{drop_of_length-le}
use Rattle.std.proofs.lemmas.List.{length-map}
use Rattle.std.proofs.lemmas.Bool.Decides.{nat_tests}
use Rattle.std.specs.Prelude.{option_and_then, ◌==◌}
use Rattle.std.specs.List.{flat_map}
use Rattle.serde_json.specs.Data.{Data}
use Rattle.serde_json.specs.View.{view}
use Rattle.serde_json.specs.declared.value.Value.{Value}
use Rattle.json_forms.specs.Lists.{list_items, all_of}
use Rattle.transform_json.specs.Arrays.{sizes_below, nested_sizes, nested_entries}
use Rattle.transform_json.specs.Members.{where_so}
use Rattle.transform_json.proofs.NestedLaws.{behind, behind-cons}
use Rattle.transform_json.proofs.Told.{eqb-true}

-- rows one after another
abbrev pub joined : List (List ℤ) → List ℤ
joined rows = flat_map (λ row. row) rows

-- what stands before, followed by the entries of all rows, is what was put, followed by those of the rows from i on
abbrev pub IsPut : List ℕ → List Value → ℕ → List ℤ → List ℤ → Type 0
IsPut sizes items i before put =
    option_map (λ rows. before ++ joined rows) (all_of (nested_entries sizes) (map view items))
    ≡ option_map (λ rows. put ++ joined rows) (all_of (nested_entries sizes) (map view (drop i items)))

regrouped : (put row : List ℤ) (o : Option (List (List ℤ))) → option_map (λ rows. put ++ joined rows) (option_map (λ rows. row ∷ rows) o) ≡ option_map (λ rows. (put ++ row) ++ joined rows) o
regrouped put row None = refl
regrouped put row (Some rows) = ap Some (sym (append_assoc put row (joined rows)))

pub put_more : (sizes : List ℕ) (items : List Value) (i : ℕ) (before put row : List ℤ) (d : Value) → i < length items → nested_entries sizes (view (get_or items i d)) ≡ Some row
    → IsPut sizes items i before put → IsPut sizes items (i + 1) before (put ++ row)
put_more sizes items i before put row d less is so = so ∙ rw (drop-cons items i d) (rw is (rw add-one (regrouped put row (all_of (nested_entries sizes) (map view (drop (suc i) items))))))

-- a row that was put
pub put_row : (sizes : List ℕ) (items : List Value) (i : ℕ) (before put new : List ℤ) (item : Value) (good : Bool) → good ≡ true → i < length items
    → (if good then Some new else None) ≡ option_map (λ entries. put ++ entries) (nested_entries sizes (view item)) → item ≡ get_or items i item
    → IsPut sizes items i before put → IsPut sizes items (i + 1) before new
put_row sizes items i before put new item good holds less is at so = told (nested_entries sizes (view item)) refl (rw holds at is)
  where
    told : (o : Option (List ℤ)) → nested_entries sizes (view item) ≡ o → Some new ≡ option_map (λ entries. put ++ entries) o → IsPut sizes items (i + 1) before new
    told None e f = cc
    told (Some row) e f =
        let same : new ≡ put ++ row = cc in
        subst (IsPut sizes items (i + 1) before) (sym same) (put_more sizes items i before put row item less (ap (λ v. nested_entries sizes (view v)) (sym at) ∙ e) so)

-- a list of another length than the first size wants
pub put_other : (sizes : List ℕ) (d : Data) (items : List Value) (before : List ℤ) → 1 ≤ length sizes → Some (map view items) ≡ list_items d → length items ≢ get_or sizes 0 0
    → None ≡ option_map (λ entries. before ++ entries) (nested_entries sizes d)
put_other [] d items before one listed other = absurd (omega (arith, one))
put_other (s ∷ ss) d items before one listed other =
    let same = length-map items view in
    let long : (length (map view items) == s) ≡ false = grind (arith, nat_tests, same) in
    ap (λ b. option_map (λ entries. before ++ entries) (option_map joined (where_so b (all_of (nested_entries ss) (map view items))))) (sym long)
    ∙ ap (λ o. option_map (λ entries. before ++ entries) (option_map joined (option_and_then (λ ds. where_so (length ds == s) (all_of (nested_entries ss) ds)) o))) listed

pub put_none : (sizes : List ℕ) (items : List Value) (i : ℕ) (before put : List ℤ) (d : Value) → i < length items → nested_entries sizes (view (get_or items i d)) ≡ None
    → IsPut sizes items i before put → None ≡ option_map (λ rows. before ++ joined rows) (all_of (nested_entries sizes) (map view items))
put_none sizes items i before put d less is so = sym (so ∙ rw (drop-cons items i d) (rw is refl))

pub put_all : (sizes : List ℕ) (items : List Value) (i : ℕ) (before put : List ℤ) → length items ≤ i
    → IsPut sizes items i before put → Some put ≡ option_map (λ rows. before ++ joined rows) (all_of (nested_entries sizes) (map view items))
put_all sizes items i before put past so = sym (so ∙ rw (drop_of_length-le items past) (ap Some (append-nil put)))

mapped-twice : (before : List ℤ) (o : Option (List (List ℤ))) → option_map (λ rows. before ++ joined rows) o ≡ option_map (λ entries. before ++ entries) (option_map joined o)
mapped-twice before None = refl
mapped-twice before (Some rows) = refl

-- the rows of a list as long as the first size wants
pub put_whole : (sizes : List ℕ) (d : Data) (items : List Value) (i : ℕ) (before put : List ℤ) → 1 ≤ length sizes → Some (map view items) ≡ list_items d → length items ≡ get_or sizes 0 0
    → length items ≤ i → IsPut (behind sizes) items i before put → Some put ≡ option_map (λ entries. before ++ entries) (nested_entries sizes d)
put_whole [] d items i before put one listed full past so = absurd (omega (arith, one))
put_whole (s ∷ ss) d items i before put one listed full past so =
    let long : (length (map view items) == s) ≡ true = eqb-true _ _ (length-map items view ∙ full) in
    let rows : Some put ≡ option_map (λ rows. before ++ joined rows) (all_of (nested_entries ss) (map view items)) =
    put_all (behind (s ∷ ss)) items i before put past so ∙ ap (λ rest. option_map (λ rows. before ++ joined rows) (all_of (nested_entries rest) (map view items))) (behind-cons s ss) in
    rows ∙ mapped-twice before (all_of (nested_entries ss) (map view items))
    ∙ ap (λ b. option_map (λ entries. before ++ entries) (option_map joined (where_so b (all_of (nested_entries ss) (map view items))))) (sym long)
    ∙ ap (λ o. option_map (λ entries. before ++ entries) (option_map joined (option_and_then (λ ds. where_so (length ds == s) (all_of (nested_entries ss) ds)) o))) listed

pushed-first : (before : List ℕ) (n : ℕ) (o : Option (List ℕ)) → option_map (λ sizes. (before ++ n ∷ []) ++ sizes) o ≡ option_map (λ sizes. before ++ sizes) (option_map (λ sizes. n ∷ sizes) o)
pushed-first before n None = refl
pushed-first before n (Some sizes) = ap Some (append_assoc before (n ∷ []) sizes)

-- the sizes of a list without an item
pub sizes_none : (depth : ℕ) (d : Data) (items : List Value) (before mid out : List ℕ) → depth ≢ 0 → length items < 1 → Some (map view items) ≡ list_items d → mid ≡ before ++ length items ∷ []
    → out ≡ mid ++ replicate (depth - 1) 1 → Some out ≡ option_map (λ sizes. before ++ sizes) (nested_sizes depth d)
sizes_none zero d items before mid out some less listed pushed is = absurd (some refl)
sizes_none (suc k) d [] before mid out some less listed pushed is =
    let one : suc k - 1 ≡ k = omega arith in
    let whole : out ≡ before ++ 0 ∷ replicate k 1 = is ∙ ap (λ n. mid ++ replicate n 1) one ∙ ap (λ xs. xs ++ replicate k 1) pushed ∙ append_assoc before (0 ∷ []) (replicate k 1) in
    ap Some whole ∙ ap (λ o. option_map (λ sizes. before ++ sizes) (option_and_then (λ ds. sizes_below k (λ x. nested_sizes k x) ds) o)) listed
sizes_none (suc k) d (item ∷ items) before mid out some less listed pushed is = absurd (omega (arith, less))

-- the sizes of a list with an item
pub sizes_more : (depth : ℕ) (d : Data) (items : List Value) (before mid : List ℕ) (first : Value) → depth ≢ 0 → 1 ≤ length items → Some (map view items) ≡ list_items d → mid ≡ before ++ length items ∷ []
    → first ≡ get_or items 0 first → option_map (λ sizes. mid ++ sizes) (nested_sizes (depth - 1) (view first)) ≡ option_map (λ sizes. before ++ sizes) (nested_sizes depth d)
sizes_more zero d items before mid first some one listed pushed is = absurd (some refl)
sizes_more (suc k) d [] before mid first some one listed pushed is = absurd (omega (arith, one))
sizes_more (suc k) d (item ∷ items) before mid first some one listed pushed is =
    let less : suc k - 1 ≡ k = omega arith in
    ap (λ n. option_map (λ sizes. mid ++ sizes) (nested_sizes n (view first))) less ∙ ap (λ v. option_map (λ sizes. mid ++ sizes) (nested_sizes k (view v))) is
    ∙ ap (λ m. option_map (λ sizes. m ++ sizes) (nested_sizes k (view item))) pushed ∙ pushed-first before (length (item ∷ items)) (nested_sizes k (view item))
    ∙ ap (λ n. option_map (λ sizes. before ++ sizes) (option_map (λ sizes. n ∷ sizes) (nested_sizes k (view item)))) (sym (length-map (item ∷ items) view))
    ∙ ap (λ o. option_map (λ sizes. before ++ sizes) (option_and_then (λ ds. sizes_below k (λ x. nested_sizes k x) ds) o)) listed
