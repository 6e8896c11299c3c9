-- The names of an object's members stand in order, so that the first is the least.
use Rattle.std.proofs.Common.{◌≡◌, ℕ, List, [], ◌∷◌, ◌||◌, map, Bool, true, false, cond, Option, Some, None, option_map, String, Global, BTreeMap, Less, string_bytes, string_cmp, refl, sym, ap, ◌∙◌}
use Rattle.std.specs.Prelude.{find, filter, not, is_some}
use Rattle.std.specs.BTreeMap.{IsOrdered, keys}
use Rattle.std.specs.List.{AllByRecursion, list_all, list_any}
use Rattle.std.specs.List.Sorted.{IsStrictlySortedBy}
use Rattle.std.specs.Map.{keys_of}
use Rattle.std.specs.Str.{bytes_eq}
use Rattle.std.proofs.lemmas.List.Folds.{list_all-map}
use Rattle.serde_json.specs.Data.{Data, null, boolean, number, string, array, object}
use Rattle.serde_json.specs.Find.{as_object, get}
use Rattle.serde_json.specs.View.{members_view}
use Rattle.serde_json.specs.declared.value.Value.{Value}
use Rattle.json_forms.specs.Members.{names_of, is_among, lesser, least_name, least_unknown, has_exactly}

abbrev pub Text : Type 0
Text = String Global

least_before : (k : Text) (ks : List Text) (test : Text → Bool) → AllByRecursion (λ y. string_cmp k y ≡ Less) ks → lesser (string_bytes k) (option_map string_bytes (find test ks)) ≡ string_bytes k
least_before k [] test below = refl
least_before k (x ∷ ks) test below =
    elim (test x) as (λ b. lesser (string_bytes k) (option_map string_bytes (cond b (Some x) (find test ks))) ≡ string_bytes k) [ true ↦ rw below.0 refl | false ↦ least_before k ks test below.1 ]

-- the least that passes a test is the first
pub least_name-filter : (test : List ℕ → Bool) (test' : Text → Bool) → ((k : Text) → test (string_bytes k) ≡ test' k) → (ks : List Text) → IsStrictlySortedBy string_cmp ks
    → least_name (filter test (map string_bytes ks)) ≡ option_map string_bytes (find test' ks)
unfolding IsStrictlySortedBy
least_name-filter test test' agree [] sorted = refl
least_name-filter test test' agree (k ∷ ks) sorted =
    rw (agree k) (elim (test' k) as
    (λ b. least_name (cond b (string_bytes k ∷ filter test (map string_bytes ks)) (filter test (map string_bytes ks))) ≡ option_map string_bytes (cond b (Some k) (find test' ks)))
    [ true ↦ ap Some (ap (lesser (string_bytes k)) (least_name-filter test test' agree ks sorted.1) ∙ least_before k ks test' sorted.0) | false ↦ least_name-filter test test' agree ks sorted.1 ])

pub names_of-members_view : (es : List (Text × Value)) → names_of (members_view es) ≡ map string_bytes (keys_of es)
names_of-members_view [] = refl
names_of-members_view (e ∷ es) = ap (λ names. string_bytes e.0 ∷ names) (names_of-members_view es)

is_among-map : {A : Type 0} (f : A → List ℕ) (name : List ℕ) (xs : List A) → is_among name (map f xs) ≡ list_any (λ x. bytes_eq (f x) name) xs
is_among-map f name [] = refl
is_among-map f name (x ∷ xs) = ap (λ b. bytes_eq (f x) name || b) (is_among-map f name xs)

of_members : {A : Type 0} (f : A → List ℕ) (known : List A) (m : BTreeMap Text Value) → IsOrdered string_cmp m
    → least_name (filter (λ name. not (is_among name (map f known))) (names_of (members_view m.entries))) ≡ option_map string_bytes (find (λ k. not (list_any (λ n. bytes_eq (f n) (string_bytes k)) known)) (keys m))
of_members f known m sorted =
    ap (λ names. least_name (filter (λ name. not (is_among name (map f known))) names)) (names_of-members_view m.entries) ∙
    least_name-filter (λ name. not (is_among name (map f known))) (λ k. not (list_any (λ n. bytes_eq (f n) (string_bytes k)) known)) (λ k. ap not (is_among-map f (string_bytes k) known)) (keys m) sorted

pub least_unknown-object : {A : Type 0} (f : A → List ℕ) (known : List A) (d : Data) (m : BTreeMap Text Value) → IsOrdered string_cmp m → Some (members_view m.entries) ≡ as_object d
    → least_unknown (map f known) d ≡ option_map string_bytes (find (λ k. not (list_any (λ n. bytes_eq (f n) (string_bytes k)) known)) (keys m))
unfolding least_unknown
least_unknown-object f known null m sorted is = cc
least_unknown-object f known (boolean b) m sorted is = cc
least_unknown-object f known (number n) m sorted is = cc
least_unknown-object f known (string s) m sorted is = cc
least_unknown-object f known (array ds) m sorted is = cc
least_unknown-object f known (object ms) m sorted is =
    let same : members_view m.entries ≡ ms = cc in
    ap (λ q. least_name (filter (λ name. not (is_among name (map f known))) (names_of q))) (sym same) ∙ of_members f known m sorted

pub least_unknown-other : (names : List (List ℕ)) (d : Data) → None ≡ as_object d → least_unknown names d ≡ None
unfolding least_unknown
least_unknown-other names null is = refl
least_unknown-other names (boolean b) is = refl
least_unknown-other names (number n) is = refl
least_unknown-other names (string s) is = refl
least_unknown-other names (array ds) is = refl
least_unknown-other names (object ms) is = cc

-- the three parts of `has_exactly`
pub has_exactly-other : (names : List (List ℕ)) (d : Data) → is_some (as_object d) ≡ false → has_exactly names d ≡ false
unfolding has_exactly
has_exactly-other names d other = rw other refl

pub has_exactly-more : (names : List (List ℕ)) (d : Data) → is_some (least_unknown names d) ≡ true → has_exactly names d ≡ false
unfolding has_exactly
has_exactly-more names d some = elim (is_some (as_object d)) as (λ b. cond b (cond (is_some (least_unknown names d)) false (list_all (λ name. is_some (get name d)) names)) false ≡ false) [ true ↦ rw some refl | false ↦ refl ]

pub has_exactly-these : {A : Type 0} (f : A → List ℕ) (xs : List A) (d : Data) → is_some (as_object d) ≡ true → is_some (least_unknown (map f xs) d) ≡ false → has_exactly (map f xs) d ≡ list_all (λ x. is_some (get (f x) d)) xs
unfolding has_exactly
has_exactly-these f xs d there none = rw (there, none) (list_all-map (λ name. is_some (get name d)) f xs)

pub is_some-option_map : {A B : Type 0} (f : A → B) (o : Option A) (p : Option B) → option_map f o ≡ p → is_some p ≡ is_some o
is_some-option_map f None p e = ap is_some (sym e)
is_some-option_map f (Some x) p e = ap is_some (sym e)
