-- What is looked up in data that bytes may hold.
use Rattle.std.proofs.Common.{◌≡◌, ℕ, suc, ◌*◌, ◌≤◌, Bool, true, false, cond, not, List, [], ◌∷◌, length, filter, Option, Some, None, option_map, option_and_then, Ordering, Less, Equal, Greater, nat_cmp, IsUtf8, refl, ap, subst, arith}
use Rattle.std.specs.List.{AllByRecursion}
use Rattle.std.specs.Ordering.{match_ordering}
use Rattle.std.specs.Cmp.Lexicographic.{slice_cmp}
use Rattle.serde_json.specs.Data.{Data, null, boolean, number, string, array, object, Items, no_items, item, Members, no_members, member}
use Rattle.serde_json.specs.Find.{get, get_member, as_str}
use Rattle.json_forms.specs.Lists.{data_list, list_items, all_of}
use Rattle.json_forms.specs.Members.{names_of, member_names, is_among, lesser, least_name, least_unknown}
use Rattle.output_laws.specs.Held.{count_of, IsHeld, AreHeld, HaveHeld}

-- what there is holds this
abbrev pub May : {A : Type 0} → (A → Type 0) → Option A → Type 0
May P None = Unit {0}
May P (Some x) = P x

pub may_some : {A : Type 0} (P : A → Type 0) (o : Option A) (x : A) → May P o → o ≡ Some x → P x
may_some P None x may is = absurd (cc)
may_some P (Some y) x may is = let same : y ≡ x = cc in subst P same may

pub may_then : {A B : Type 0} (P : A → Type 0) (Q : B → Type 0) (f : A → Option B) (o : Option A) → May P o → ((x : A) → P x → May Q (f x)) → May Q (option_and_then f o)
may_then P Q f None may each = tt
may_then P Q f (Some x) may each = each x may

pub may_map : {A B : Type 0} (P : A → Type 0) (Q : B → Type 0) (f : A → B) (o : Option A) → May P o → ((x : A) → P x → Q (f x)) → May Q (option_map f o)
may_map P Q f None may each = tt
may_map P Q f (Some x) may each = each x may

pub may_so : {A : Type 0} (P : A → Type 0) (t : Bool) (o : Option A) → (t ≡ true → May P o) → May P (cond t o None)
may_so P true o may = may refl
may_so P false o may = tt

-- each that f gives
pub may_all : {A B : Type 0} (P : A → Type 0) (Q : B → Type 0) (f : A → Option B) (xs : List A) → AllByRecursion P xs → ((x : A) → P x → May Q (f x)) → May (λ ys. AllByRecursion Q ys × (length ys ≡ length xs)) (all_of f xs)
may_all P Q f [] all each = (tt, refl)
may_all P Q f (x ∷ xs) all each = go (f x) (each x all.0) (all_of f xs) (may_all P Q f xs all.1 each)
  where
    go : (o : Option _) → May Q o → (p : Option (List _)) → May (λ ys. AllByRecursion Q ys × (length ys ≡ length xs)) p
        → May (λ ys. AllByRecursion Q ys × (length ys ≡ length (x ∷ xs))) (option_and_then (λ y. option_map (λ ys. y ∷ ys) p) o)
    go None one p more = tt
    go (Some y) one None more = tt
    go (Some y) one (Some ys) more = ((one, more.0), ap suc more.1)

module _ (n : ℕ) where
  chosen : (o : Ordering) (x y z : Option Data) → May (IsHeld n) x → May (IsHeld n) y → May (IsHeld n) z → May (IsHeld n) (match_ordering o x y z)
  chosen Less x y z a b c = a
  chosen Equal x y z a b c = b
  chosen Greater x y z a b c = c

  member_held : (k : List ℕ) (ms : Members) → HaveHeld n ms → May (IsHeld n) (get_member k ms)
  member_held k no_members have = tt
  member_held k (member l e ms) have = let rest = member_held k ms have.2 in chosen (slice_cmp nat_cmp k l) (get_member k ms) (Some e) (get_member k ms) rest have.1 rest

  pub get_held : (k : List ℕ) (d : Data) → IsHeld n d → May (IsHeld n) (get k d)
  get_held k null held = tt
  get_held k (boolean b) held = tt
  get_held k (number x) held = tt
  get_held k (string s) held = tt
  get_held k (array ds) held = tt
  get_held k (object ms) held = member_held k ms held

  pub str_held : (d : Data) → IsHeld n d → May IsUtf8 (as_str d)
  str_held null held = tt
  str_held (boolean b) held = tt
  str_held (number x) held = tt
  str_held (string s) held = held
  str_held (array ds) held = tt
  str_held (object ms) held = tt

  -- at most half so many items, each held
  pub record AreItems (xs : List Data) : Type 0 where
    pub each : AllByRecursion (IsHeld n) xs
    pub few : 2 * length xs ≤ n

  listed : (ds : Items) → AreHeld n ds → AllByRecursion (IsHeld n) (data_list ds) × (length (data_list ds) ≡ count_of ds)
  listed no_items are = (tt, refl)
  listed (item d ds) are = let rest = listed ds are.1 in ((are.0, rest.0), ap suc rest.1)

  pub items_held : (d : Data) → IsHeld n d → May AreItems (list_items d)
  items_held null held = tt
  items_held (boolean b) held = tt
  items_held (number x) held = tt
  items_held (string s) held = tt
  items_held (array ds) held = let are = listed ds held.1 in let same = are.1 in record { each = are.0; few = omega (arith, same, held.0) }
  items_held (object ms) held = tt

  names_held : (ms : Members) → HaveHeld n ms → AllByRecursion IsUtf8 (names_of ms)
  names_held no_members have = tt
  names_held (member k d ms) have = (have.0, names_held ms have.2)

  pub member_names_held : (d : Data) → IsHeld n d → AllByRecursion IsUtf8 (member_names d)
  member_names_held null held = tt
  member_names_held (boolean b) held = tt
  member_names_held (number x) held = tt
  member_names_held (string s) held = tt
  member_names_held (array ds) held = tt
  member_names_held (object ms) held = names_held ms held

pub lesser_text : (k : List ℕ) (o : Option (List ℕ)) → IsUtf8 k → May IsUtf8 o → IsUtf8 (lesser k o)
lesser_text k None one may = one
lesser_text k (Some l) one may = go (slice_cmp nat_cmp k l)
  where
    go : (o : Ordering) → IsUtf8 (match_ordering o k k l)
    go Less = one
    go Equal = one
    go Greater = may

pub least_text : (names : List (List ℕ)) → AllByRecursion IsUtf8 names → May IsUtf8 (least_name names)
least_text [] all = tt
least_text (k ∷ ks) all = lesser_text k (least_name ks) all.0 (least_text ks all.1)

pub filter_texts : (p : List ℕ → Bool) (names : List (List ℕ)) → AllByRecursion IsUtf8 names → AllByRecursion IsUtf8 (filter p names)
filter_texts p [] all = tt
filter_texts p (k ∷ ks) all = go (p k) (filter_texts p ks all.1)
  where
    go : (t : Bool) → AllByRecursion IsUtf8 (filter p ks) → AllByRecursion IsUtf8 (cond t (k ∷ filter p ks) (filter p ks))
    go true rest = (all.0, rest)
    go false rest = rest

pub unknown_held : (n : ℕ) (known : List (List ℕ)) (d : Data) → IsHeld n d → May IsUtf8 (least_unknown known d)
unfolding least_unknown
unknown_held n known d held = least_text (filter (λ name. not (is_among name known)) (member_names d)) (filter_texts (λ name. not (is_among name known)) (member_names d) (member_names_held n d held))
