-- Look-ups in a table by bytes.
use Rattle.std.proofs.Common.{◌≡◌, ℕ, ◌+◌, ◌<◌, List, [], ◌∷◌, ◌++◌, length, take, drop, Bool, true, false, cond, Option, Some, None, inl, inr, refl, sym, ap, subst, ◌∙◌, arith, eqb-true, eq-eqb, nat_lt}
use Rattle.std.specs.Prelude.{◌==◌, ◌&&◌, Vec, nat_eq, IsSome, slice_index}
use Rattle.std.specs.List.{starts_with}
use Rattle.std.specs.Str.{bytes_eq}
use Rattle.std.specs.Map.{lookup, remove_entry}
use Rattle.std.specs.BTreeMap.{insert_entry, is_at}
use Rattle.std.specs.BTreeMap.Range.{IsRangeOf}
use Rattle.std.specs.declared.alloc.Global.{Global}
use Rattle.std.specs.declared.ops.Bound.TheVariants.{Included, Unbounded}
use Rattle.std.specs.declared.cmp.Ordering.{Ordering}
use Rattle.std.specs.declared.cmp.Ordering.TheVariants.{Less, Equal, Greater}
use Rattle.std.specs.Ordering.{is_lt, is_gt, is_eq, nat_cmp, ordering_then, ordering_reverse, match_ordering}
use Rattle.std.specs.Cmp.Lexicographic.{slice_cmp, nat_list_cmp_total}
use Rattle.std.proofs.lemmas.Slice.Eq.{bytes_eq-Decides}
use Rattle.std.specs.FinMap as finmap
use Rattle.std.specs.FinMap.{get-empty, get-insert, get-remove, same_map, nat_cmp-IsAntisymmetric, slice_cmp-IsAntisymmetric}
use Rattle.std.proofs.lemmas.Map.Text.{is_eq-slice_cmp}
use Rattle.std.proofs.lemmas.Bool.Decides.{nat_tests}
use Rattle.std.proofs.lemmas.List.{take_more, drop_more}
use Rattle.locations.specs.Paths.{Located, begins}
use Rattle.locations.specs.Tables.{Table, place_at, numbers_of, AreNamed, first_or, first_above, IsLeastBelow}
use Rattle.locations.specs.declared.table.Place.{Place}
use Rattle.locations.proofs.Texts.{true_or_false, cmp, equal_texts, begins_split, same_byte}

abbrev pub Key : Type 0
Key = Vec ℕ Global

abbrev pub Entries : Type 0
Entries = List (Key × Place)

abbrev at : List ℕ → Entries → Option Place
at here es = lookup (λ k. is_eq (slice_cmp nat_cmp here k.items)) es

abbrev pub by_key : Key → Key → Ordering
by_key x y = slice_cmp nat_cmp x.items y.items

is_equal : (xs ys : List ℕ) → is_eq (cmp xs ys) ≡ true → xs ≡ ys
is_equal xs ys e = (bytes_eq-Decides xs ys).0 (sym (is_eq-slice_cmp xs ys) ∙ e)

apart : (xs ys : List ℕ) → bytes_eq xs ys ≡ false → is_eq (cmp ys xs) ≡ false
apart xs ys f =
    elim (true_or_false (is_eq (cmp ys xs))) [
      | inl t ↦ let clash : true ≡ false = sym (subst (λ zs. bytes_eq xs zs ≡ true) (sym (is_equal ys xs t)) ((bytes_eq-Decides xs xs).1 refl)) ∙ f in absurd (cc)
      | inr g ↦ g
    ]

-- an entry more leaves other keys
module _ (here : List ℕ) (key : Key) (text : Place) (other : is_eq (cmp here key.items) ≡ false) where
  inserted_by : (o : Ordering) (e : Key × Place) (es : Entries) → by_key key e.0 ≡ o → at here (insert_entry by_key es key text) ≡ at here es
      → at here (match_ordering o ((key, text) ∷ e ∷ es) ((e.0, text) ∷ es) (e ∷ insert_entry by_key es key text)) ≡ at here (e ∷ es)
  inserted_by Less e es is rest = ap (λ b. cond b (Some text) (at here (e ∷ es))) other
  inserted_by Equal e es is rest =
      let same : key.items ≡ e.0.items = equal_texts key.items e.0.items is in
      let away : is_eq (cmp here e.0.items) ≡ false = subst (λ ks. is_eq (cmp here ks) ≡ false) same other in
      ap (λ b. cond b (Some text) (at here es)) away ∙ sym (ap (λ b. cond b (Some e.1) (at here es)) away)
  inserted_by Greater e es is rest = ap (λ o. cond (is_eq (cmp here e.0.items)) (Some e.1) o) rest

  inserted : (es : Entries) → at here (insert_entry by_key es key text) ≡ at here es
  inserted [] = ap (λ b. cond b (Some text) None) other
  inserted (e ∷ es) = inserted_by (by_key key e.0) e es refl (inserted es)

removed : (here there : List ℕ) → is_eq (cmp here there) ≡ false → (es : Entries) → at here (remove_entry (is_at (λ k. slice_cmp nat_cmp there k.items)) es) ≡ at here es
removed here there other [] = refl
removed here there other (e ∷ es) =
    let test = is_eq (cmp there e.0.items) in
    let gone = remove_entry (is_at (λ k. slice_cmp nat_cmp there k.items)) es in
    elim (true_or_false test) [
      | inl t ↦
          let away : is_eq (cmp here e.0.items) ≡ false = subst (λ ks. is_eq (cmp here ks) ≡ false) (is_equal there e.0.items t) other in
          ap (λ b. at here (cond b es (e ∷ gone))) t ∙ sym (ap (λ b. cond b (Some e.1) (at here es)) away)
      | inr f ↦ ap (λ b. at here (cond b es (e ∷ gone))) f ∙ ap (λ o. cond (is_eq (cmp here e.0.items)) (Some e.1) o) (removed here there other es)
    ]

-- a place put in, and one taken out
pub put_in : (old new : Table) (key : Key) (there : List ℕ) (p : Place) → key.items ≡ there → place_at new key.items ≡ Some p → new.entries ≡ insert_entry by_key old.entries key p
    → (other : List ℕ) → place_at new other ≡ cond (bytes_eq there other) (Some p) (place_at old other)
put_in old new key there p named found entries other =
    elim (true_or_false (bytes_eq there other)) [
      | inl t ↦
          let is : key.items ≡ other = named ∙ (bytes_eq-Decides there other).0 t in
          ap (place_at new) (sym is) ∙ found ∙ sym (ap (λ b. cond b (Some p) (place_at old other)) t)
      | inr f ↦
          ap (at other) entries ∙ inserted other key p (subst (λ ks. is_eq (cmp other ks) ≡ false) (sym named) (apart there other f)) old.entries
          ∙ sym (ap (λ b. cond b (Some p) (place_at old other)) f)
    ]

pub took_out : (old new : Table) (there : List ℕ) → place_at new there ≡ None → new.entries ≡ remove_entry (is_at (λ k. slice_cmp nat_cmp there k.items)) old.entries
    → (other : List ℕ) → place_at new other ≡ cond (bytes_eq there other) None (place_at old other)
took_out old new there gone entries other =
    elim (true_or_false (bytes_eq there other)) [
      | inl t ↦ ap (place_at new) (sym ((bytes_eq-Decides there other).0 t)) ∙ gone ∙ sym (ap (λ b. cond b None (place_at old other)) t)
      | inr f ↦ ap (at other) entries ∙ removed other there (apart there other f) old.entries ∙ sym (ap (λ b. cond b None (place_at old other)) f)
    ]

-- the number of the array at a location is that of the place there
abbrev number_in : Option Place → Option ℕ
number_in None = None
number_in (Some p) = Some p.number

number_either : (b : Bool) (o p : Option Place) → number_in (cond b o p) ≡ cond b (number_in o) (number_in p)
number_either true o p = refl
number_either false o p = refl

get_entry : (es : Entries) (q : List ℕ) → finmap.get (numbers_of es) q ≡ number_in (at q es)
get_entry [] q = get-empty (slice_cmp nat_cmp) q
get_entry (e ∷ es) q =
    get-insert nat_list_cmp_total (numbers_of es) e.0.items e.1.number q ∙ ap (cond (is_eq (cmp q e.0.items)) (Some e.1.number)) (get_entry es q)
    ∙ sym (number_either (is_eq (cmp q e.0.items)) (Some e.1) (at q es))

pub get_number : (table : Table) (q : List ℕ) → finmap.get (numbers_of table.entries) q ≡ number_in (place_at table q)
get_number table q = get_entry table.entries q

pub number_some : (table : Table) (q : List ℕ) (p : Place) → place_at table q ≡ Some p → finmap.get (numbers_of table.entries) q ≡ Some p.number
number_some table q p is = get_number table q ∙ ap number_in is

pub number_none : (table : Table) (q : List ℕ) → place_at table q ≡ None → finmap.get (numbers_of table.entries) q ≡ None
number_none table q is = get_number table q ∙ ap number_in is

pub place_of : (table : Table) (q : List ℕ) (n : ℕ) → finmap.get (numbers_of table.entries) q ≡ Some n → (p : Place) × (place_at table q ≡ Some p)
place_of table q n e = by (place_at table q) refl (sym (get_number table q) ∙ e)
  where
    by : (o : Option Place) → place_at table q ≡ o → number_in o ≡ Some n → (p : Place) × (place_at table q ≡ Some p)
    by None is f = absurd (cc)
    by (Some p) is f = (p, is)

same_located : (m n : Located) → ((q : List ℕ) → finmap.get m q ≡ finmap.get n q) → m ≡ n
same_located m n is = same_map nat_list_cmp_total (slice_cmp-IsAntisymmetric nat_cmp-IsAntisymmetric) m n is

swapped : (xs ys : List ℕ) → bytes_eq xs ys ≡ bytes_eq ys xs
swapped xs ys = by (bytes_eq xs ys) (bytes_eq ys xs) refl refl
  where
    by : (a b : Bool) → bytes_eq xs ys ≡ a → bytes_eq ys xs ≡ b → bytes_eq xs ys ≡ bytes_eq ys xs
    by true true p q = p ∙ sym q
    by false false p q = p ∙ sym q
    by true false p q = let same : xs ≡ ys = (bytes_eq-Decides xs ys).0 p in let clash : true ≡ false = sym ((bytes_eq-Decides ys xs).1 (sym same)) ∙ q in absurd (cc)
    by false true p q = let same : ys ≡ xs = (bytes_eq-Decides ys xs).0 q in let clash : true ≡ false = sym ((bytes_eq-Decides xs ys).1 (sym same)) ∙ p in absurd (cc)

pub put_numbers : (old new : Table) (there : List ℕ) (p : Place) → ((other : List ℕ) → place_at new other ≡ cond (bytes_eq there other) (Some p) (place_at old other))
    → numbers_of new.entries ≡ finmap.insert (numbers_of old.entries) there p.number
put_numbers old new there p each =
    same_located (numbers_of new.entries) (finmap.insert (numbers_of old.entries) there p.number)
    (λ q. get_number new q ∙ ap number_in (each q) ∙ number_either (bytes_eq there q) (Some p) (place_at old q) ∙ ap (λ b. cond b (Some p.number) (number_in (place_at old q))) (swapped there q ∙ sym (is_eq-slice_cmp q there))
    ∙ ap (cond (is_eq (cmp q there)) (Some p.number)) (sym (get_number old q)) ∙ sym (get-insert nat_list_cmp_total (numbers_of old.entries) there p.number q))

pub out_numbers : (old new : Table) (there : List ℕ) → ((other : List ℕ) → place_at new other ≡ cond (bytes_eq there other) None (place_at old other))
    → numbers_of new.entries ≡ finmap.remove (numbers_of old.entries) there
out_numbers old new there each =
    same_located (numbers_of new.entries) (finmap.remove (numbers_of old.entries) there)
    (λ q. get_number new q ∙ ap number_in (each q) ∙ number_either (bytes_eq there q) None (place_at old q) ∙ ap (λ b. cond b None (number_in (place_at old q))) (swapped there q ∙ sym (is_eq-slice_cmp q there))
    ∙ ap (cond (is_eq (cmp q there)) None) (sym (get_number old q)) ∙ sym (get-remove nat_list_cmp_total (numbers_of old.entries) there q))

pub put_named : (old new : Table) (there : List ℕ) (p : Place) → p.text ≡ there → AreNamed old → ((other : List ℕ) → place_at new other ≡ cond (bytes_eq there other) (Some p) (place_at old other)) → AreNamed new
put_named old new there p same named each other q is = told (bytes_eq there other) refl (sym (each other) ∙ is)
  where
    told : (b : Bool) → bytes_eq there other ≡ b → cond b (Some p) (place_at old other) ≡ Some q → q.text ≡ other
    told true t e = let one : p ≡ q = cc in ap (λ (r : Place). r.text) (sym one) ∙ same ∙ (bytes_eq-Decides there other).0 t
    told false f e = named other q e

pub out_named : (old new : Table) (there : List ℕ) → AreNamed old → ((other : List ℕ) → place_at new other ≡ cond (bytes_eq there other) None (place_at old other)) → AreNamed new
out_named old new there named each other q is = told (bytes_eq there other) (sym (each other) ∙ is)
  where
    told : (b : Bool) → cond b None (place_at old other) ≡ Some q → q.text ≡ other
    told true e = absurd (cc)
    told false e = named other q e

-- the key that a look-up finds
key_of : (here : List ℕ) (more : Place) (es : Entries) → at here es ≡ Some more → (k : Key) × (k.items ≡ here)
key_of here more [] e = absurd (cc)
key_of here more (x ∷ xs) e =
    elim (true_or_false (is_eq (cmp here x.0.items))) [
      | inl t ↦ (x.0, sym (is_equal here x.0.items t))
      | inr f ↦ key_of here more xs (sym (ap (λ b. cond b (Some x.1) (at here xs)) f) ∙ e)
    ]

-- a text isn't greater than one that begins with it
no_greater : (us rs : List ℕ) → is_gt (cmp us (us ++ rs)) ≡ false
no_greater [] [] = refl
no_greater [] (r ∷ rs) = refl
no_greater (u ∷ us) rs = ap (λ o. is_gt (ordering_then o (cmp us (us ++ rs)))) (same_byte u) ∙ no_greater us rs

turned : (o p : Ordering) → o ≡ ordering_reverse p → is_gt p ≡ false → is_lt o ≡ false
turned Less Less e g = absurd (cc)
turned Less Equal e g = absurd (cc)
turned Less Greater e g = absurd (cc)
turned Equal p e g = refl
turned Greater p e g = refl

-- what stands between a text and one that begins with it begins with it too
both_low : (x y : ℕ) (o p : Ordering) → is_gt (ordering_then (nat_cmp x y) o) ≡ false → is_gt (ordering_then (nat_cmp y x) p) ≡ false → (x ≡ y) × (is_gt o ≡ false) × (is_gt p ≡ false)
both_low x y o p e f =
    elim (true_or_false (nat_lt x y)) [
      | inl t ↦
          let high : nat_lt y x ≡ false = grind (arith, nat_tests) in
          let other : (y == x) ≡ false = grind (arith, nat_tests) in
          let clash : true ≡ false = sym (ap (λ b. is_gt (ordering_then (cond b Less (cond (y == x) Equal Greater)) p)) high ∙ ap (λ b. is_gt (ordering_then (cond b Equal Greater) p)) other) ∙ f in
          absurd (cc)
      | inr n ↦
          elim (true_or_false (x == y)) [
            | inl s ↦
                let same = eqb-true x y s in
                let first : nat_cmp x y ≡ Equal = ap (nat_cmp x) (sym same) ∙ same_byte x in
                let second : nat_cmp y x ≡ Equal = ap (λ z. nat_cmp z x) (sym same) ∙ same_byte x in
                (same, sym (ap (λ q. is_gt (ordering_then q o)) first) ∙ e, sym (ap (λ q. is_gt (ordering_then q p)) second) ∙ f)
            | inr d ↦
                let clash : true ≡ false = sym (ap (λ b. is_gt (ordering_then (cond b Less (cond (x == y) Equal Greater)) o)) n ∙ ap (λ b. is_gt (ordering_then (cond b Equal Greater) o)) d) ∙ e in
                absurd (cc)
          ]
    ]

between : (us ks rs : List ℕ) → is_gt (cmp us ks) ≡ false → is_gt (cmp ks (us ++ rs)) ≡ false → begins us ks ≡ true
between [] ks rs low high = refl
between (u ∷ us) [] rs low high = absurd (cc)
between (u ∷ us) (k ∷ ks) rs low high =
    let parts = both_low u k (cmp us ks) (cmp ks (us ++ rs)) low high in
    ap (λ b. b && begins us ks) (eq-eqb u k parts.0) ∙ between us ks rs parts.1 parts.2

some_of : (o : Option Place) (x : Place) → o ≡ Some x → IsSome o
some_of None x e = absurd (cc)
some_of (Some y) x e = refl

module _ (table : Table) (from : Key) where
  in_range : (other : List ℕ) (more : Place) → begins from.items other ≡ true → place_at table other ≡ Some more → (q : Key) × (q.items ≡ other) × (is_gt (cmp from.items q.items) ≡ false) × (place_at table q.items ≡ Some more)
  in_range other more begun found =
      let q = key_of other more table.entries found in
      let parts = begins_split from.items other begun in
      (q.0, q.1, ap (λ ks. is_gt (cmp from.items ks)) (q.1 ∙ parts.1) ∙ no_greater from.items parts.0, ap (place_at table) q.1 ∙ found)

  pub least_found : (key : Key) (text : Place) (rest : Entries) → IsRangeOf by_key (Included from) Unbounded table ((key, text) ∷ rest) → begins from.items key.items ≡ true → IsLeastBelow (place_at table) from.items text
  least_found key text rest r begun = record {
    location = key.items;
    below = begun;
    there = r.1.1;
    least = λ other more b found.
        let q = in_range other more b found in
        let low : is_gt (cmp key.items q.0.items) ≡ false = r.2 q.0 (q.2, tt) (some_of (place_at table q.0.items) more q.3) in
        ap (λ ks. is_lt (cmp ks key.items)) (sym q.1) ∙ turned (cmp q.0.items key.items) (cmp key.items q.0.items) (nat_list_cmp_total.antisymm q.0.items key.items) low;
  }

  by_text : (o : Option Place) (other : List ℕ) → place_at table other ≡ o → ((more : Place) → place_at table other ≡ Some more → ⊥) → place_at table other ≡ None
  by_text None other e h = e
  by_text (Some more) other e h = absurd (h more e)

  pub none_begun : (key : Key) (text : Place) (rest : Entries) → IsRangeOf by_key (Included from) Unbounded table ((key, text) ∷ rest) → begins from.items key.items ≡ false → (other : List ℕ) → begins from.items other ≡ true → place_at table other ≡ None
  none_begun key text rest r not_begun other b = by_text (place_at table other) other refl (λ more found.
      let q = in_range other more b found in
      let low : is_gt (cmp key.items q.0.items) ≡ false = r.2 q.0 (q.2, tt) (some_of (place_at table q.0.items) more q.3) in
      let parts = begins_split from.items other b in
      let high : is_gt (cmp key.items (from.items ++ parts.0)) ≡ false = ap (λ ks. is_gt (cmp key.items ks)) (sym parts.1 ∙ sym q.1) ∙ low in
      let clash : true ≡ false = sym (between from.items key.items parts.0 r.1.0.0 high) ∙ not_begun in
      absurd (cc))

  pub none_in_range : IsRangeOf by_key (Included from) Unbounded table [] → (other : List ℕ) → begins from.items other ≡ true → place_at table other ≡ None
  none_in_range r other b = by_text (place_at table other) other refl (λ more found.
      let q = in_range other more b found in
      let clash : Some more ≡ None = sym q.3 ∙ r.5 refl q.0 (q.2, tt) in
      absurd (cc))

starts : (xs needle : List ℕ) → starts_with nat_eq xs needle ≡ begins needle xs
starts xs [] = refl
starts [] (n ∷ ns) = refl
starts (x ∷ xs) (n ∷ ns) = ap (λ b. (n == x) && b) (starts xs ns)

pub begun_by : (xs needle : List ℕ) (b : Bool) → b ≡ starts_with nat_eq xs needle → begins needle xs ≡ b
begun_by xs needle b e = sym (e ∙ starts xs needle)

-- one byte further along a location
pub above_step : (f : List ℕ → Option Place) (l : List ℕ) (i : ℕ) → i < length l → first_above f (take i l) (drop i l) ≡ first_or (cond (slice_index l i == 47) (f (take i l)) None) (first_above f (take (i + 1) l) (drop (i + 1) l))
above_step f l i lt =
    ap (first_above f (take i l)) (drop_more l i 0 lt)
    ∙ ap (λ t. first_or (cond (slice_index l i == 47) (f (take i l)) None) (first_above f t (drop (i + 1) l))) (sym (take_more l i 0 lt))
