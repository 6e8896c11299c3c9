-- The names of an object's members stand in order, so that the first to pass a test is the least.
use Rattle.std.proofs.Common.{◌≡◌, ℕ, List, [], ◌∷◌, map, Bool, true, false, cond, Option, Some, None, option_map, String, Global, BTreeMap, Bor, Less, string_bytes, string_cmp, refl, sym, ap, ◌∙◌}
use Rattle.std.specs.Prelude.{find, filter}
use Rattle.std.specs.BTreeMap.{IsOrdered, keys}
use Rattle.std.specs.List.{AllByRecursion}
use Rattle.std.specs.List.Sorted.{IsStrictlySortedBy}
use Rattle.std.specs.Map.{keys_of}
use Rattle.serde_json.specs.Data.{Data, null, boolean, number, string, array, object}
use Rattle.serde_json.specs.Find.{as_object}
use Rattle.serde_json.specs.View.{members_view}
use Rattle.serde_json.specs.declared.value.Value.{Value}
use Rattle.json_forms.specs.Members.{names_of, member_names, lesser, least_name}

abbrev pub Text : Type 0
Text = String Global

-- the least name of a member that passes a test
abbrev pub least_of : (List ℕ → Bool) → Data → Option (List ℕ)
least_of test d = least_name (filter test (member_names d))

least_before : (k : Text) (ks : List Text) (test : Text → Bool) → AllByRecursion (λ y. string_cmp k y ≡ Less) ks → lesser (string_bytes k) (option_map string_bytes (find test ks)) ≡ string_bytes k
least_before k [] test below = refl
least_before k (x ∷ ks) test below =
    elim (test x) as (λ b. lesser (string_bytes k) (option_map string_bytes (cond b (Some x) (find test ks))) ≡ string_bytes k) [ true ↦ rw below.0 refl | false ↦ least_before k ks test below.1 ]

least_name-filter : (test : List ℕ → Bool) (ks : List Text) → IsStrictlySortedBy string_cmp ks → least_name (filter test (map string_bytes ks)) ≡ option_map string_bytes (find (λ k. test (string_bytes k)) ks)
unfolding IsStrictlySortedBy
least_name-filter test [] sorted = refl
least_name-filter test (k ∷ ks) sorted =
    elim (test (string_bytes k)) as
    (λ b. least_name (cond b (string_bytes k ∷ filter test (map string_bytes ks)) (filter test (map string_bytes ks))) ≡ option_map string_bytes (cond b (Some k) (find (λ x. test (string_bytes x)) ks)))
    [ true ↦ ap Some (ap (lesser (string_bytes k)) (least_name-filter test ks sorted.1) ∙ least_before k ks (λ x. test (string_bytes x)) sorted.0) | false ↦ least_name-filter test ks sorted.1 ]

names_of-members_view : (es : List (Text × Value)) → names_of (members_view es) ≡ map string_bytes (keys_of es)
names_of-members_view [] = refl
names_of-members_view (e ∷ es) = ap (λ names. string_bytes e.0 ∷ names) (names_of-members_view es)

pub least_of-object : (test : List ℕ → Bool) (d : Data) (m : BTreeMap Text Value) → IsOrdered string_cmp m → Some (members_view m.entries) ≡ as_object d → least_of test d ≡ option_map string_bytes (find (λ k. test (string_bytes k)) (keys m))
least_of-object test null m sorted is = cc
least_of-object test (boolean b) m sorted is = cc
least_of-object test (number n) m sorted is = cc
least_of-object test (string s) m sorted is = cc
least_of-object test (array ds) m sorted is = cc
least_of-object test (object ms) m sorted is =
    let same : members_view m.entries ≡ ms = cc in
    ap (λ q. least_name (filter test (names_of q))) (sym same) ∙ ap (λ names. least_name (filter test names)) (names_of-members_view m.entries) ∙ least_name-filter test (keys m) sorted

pub least_of-other : (test : List ℕ → Bool) (d : Data) → None ≡ as_object d → least_of test d ≡ None
least_of-other test null is = refl
least_of-other test (boolean b) is = refl
least_of-other test (number n) is = refl
least_of-other test (string s) is = refl
least_of-other test (array ds) is = refl
least_of-other test (object ms) is = cc

pub found_bytes : (o : Option (Bor Text)) (p : Option Text) → option_map (λ name. name.now) o ≡ p → option_map (λ name. string_bytes name.now) o ≡ option_map string_bytes p
found_bytes None p e = ap (option_map string_bytes) e
found_bytes (Some x) p e = ap (option_map string_bytes) e
