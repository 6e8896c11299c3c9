-- The transforms that data are, and the paths at which they are at fault.
use Rattle.std.proofs.Common.{◌≡◌, ℕ, zero, suc, ◌+◌, ◌≤◌, ◌==◌, ◌&&◌, nat_le, ltb-true, leb-true, eqb-true, ℤ, pos, Bool, true, false, cond, not, List, [], ◌∷◌, ◌++◌, length, map, replicate, codes, decimal, Option, Some, None, option_map, option_and_then, Result, Ok, Err, IsUtf8, refl, subst, arith}
use Rattle.std.specs.Prelude.{find, is_some}
use Rattle.std.specs.List.{AllByRecursion, list_all, zip, position_from}
use Rattle.std.specs.Ordering.{int_eq}
use Rattle.std.proofs.lemmas.Bool.{and_parts}
use Rattle.std.proofs.lemmas.Fmt.{IsAscii-decimal}
use Rattle.std.proofs.lemmas.Int.{ints}
use Rattle.std.proofs.lemmas.List.{length-map}
use Rattle.std.proofs.lemmas.Str.{IsUtf8-nil, IsUtf8-append, IsUtf8-from_ascii}
use Rattle.json.proofs.Printed.Utf8.{IsUtf8-are_ascii, are_ascii}
use Rattle.serde_json.specs.Data.{Data}
use Rattle.serde_json.specs.Find.{get, as_object, as_str}
use Rattle.json_forms.specs.Lists.{list_items, all_of}
use Rattle.json_forms.specs.Members.{member_names, least_unknown}
use Rattle.cells.specs.Places.{cell_count}
use Rattle.index_intervals.specs.Bounds.{Bounds, is_index}
use Rattle.index_intervals.proofs.Laws.{is_index-true}
use Rattle.index_transform.specs.Maps.{fits, fits_dim, are_entries, is_map, plain_map, are_labels, has_ranks}
use Rattle.index_transform.specs.Transforms.{DomainAndMaps, checked, first_bad_map, unless_bad}
use Rattle.index_transform.specs.declared.domain.Domain.{Domain}
use Rattle.index_transform.specs.declared.error.TransformError.{TransformError}
use Rattle.index_transform.specs.declared.map.OutMap.{OutMap}
use Rattle.index_transform.specs.declared.map.OutMap.TheVariants.{Constant, Strided, Indexed}
use Rattle.transform_json.specs.Bounds.{lowers_of}
use Rattle.transform_json.specs.Faults.{◌>>=◌, found_at, unless_faulty, no_fault}
use Rattle.transform_json.specs.Input.{rank_of, rank_by, rank_number, rank_of_lists, given_labels, labels_of, domain_of}
use Rattle.transform_json.specs.Members.{where_so, list_members, has, items_at, items_of_len, first_some}
use Rattle.transform_json.specs.Output.{array_in, is_good, faulty_member, map_of, maps_from, maps_of}
use Rattle.transform_json.specs.Transforms.{transform_members, transform_in, transform_of}
use Rattle.transform_json.specs.Uppers.{dims_of, open_dims}
use Rattle.transform_json.specs.declared.error.JsonError.{JsonError}
use Rattle.transform_json.specs.declared.error.JsonError.TheVariants as json
use Rattle.transform_json.proofs.Accepted.{domain-good, accepted}
use Rattle.output_laws.specs.Held.{IsHeld}
use Rattle.output_laws.specs.Plain.{IsWhole}
use Rattle.output_laws.specs.Small.{IsLed}
use Rattle.output_laws.proofs.HeldData.{May, may_then, may_map, may_so, may_all, get_held, str_held, AreItems, items_held, member_names_held, least_text, filter_texts, unknown_held}
use Rattle.output_laws.proofs.SmallMaps.{IsFurther, none_of}

-- ---- what a transform leads from

index_whole : (z : ℤ) → is_index z ≡ true → IsWhole z
index_whole z is = let within = is_index-true z is in record { from_least = omega (arith, ints, within.above); to_greatest = omega (arith, ints, within.below) }

pub entries_whole : (zs : List ℤ) → list_all is_index zs ≡ true → AllByRecursion IsWhole zs
entries_whole [] all = tt
entries_whole (z ∷ zs) all = let both = and_parts _ _ all in (index_whole z both.0, entries_whole zs both.1)

map_led : (dims : List Bounds) (m : OutMap) → length dims ≤ 32 → is_map dims m ≡ true → IsLed (plain_map m)
map_led dims (Constant offset) few is = tt
map_led dims (Strided offset stride dim) few is = go (int_eq stride (pos 0))
  where
    go : (t : Bool) → IsLed (cond t (Constant offset) (Strided offset stride dim))
    go true = tt
    go false = let low = ltb-true dim (length dims) is in omega (arith, low, few)
map_led dims (Indexed offset stride sizes entries) few is = go (int_eq stride (pos 0))
  where
    go : (t : Bool) → IsLed (cond t (Constant offset) (Indexed offset stride sizes entries))
    go true = tt
    go false =
        let both = and_parts (fits dims sizes) (are_entries sizes entries) is in
        let same = and_parts (length dims == length sizes) (list_all (λ p. fits_dim p.0 p.1) (zip dims sizes)) both.0 in
        let entered = and_parts (nat_le (cell_count sizes) 4194304 && (length entries == cell_count sizes)) (list_all is_index entries) both.1 in
        let ranks : length dims ≡ length sizes = eqb-true (length dims) (length sizes) same.0 in
        (omega (arith, ranks, few), entries_whole entries entered.1)

maps_led : (dims : List Bounds) (k : ℕ) (ms : List OutMap) → length dims ≤ 32 → position_from (λ m. not (is_map dims m)) k ms ≡ None → AllByRecursion IsLed (map plain_map ms)
maps_led dims k [] few none = tt
maps_led dims k (m ∷ ms) few none =
    let both = none_of (λ m. not (is_map dims m)) k m ms none in
    (map_led dims m few (opposite (is_map dims m) both.0), maps_led dims (k + 1) ms few both.1)
  where
    opposite : (b : Bool) → not b ≡ false → b ≡ true
    opposite true e = refl
    opposite false e = absurd (cc)

-- what is known of maps that make a transform
record AreChecked (domain : Domain) (maps : List OutMap) : Type 0 where
  ranks : has_ranks domain maps ≡ true
  none : first_bad_map domain maps ≡ None

checked-of : (domain : Domain) (maps : List OutMap) (t : DomainAndMaps) → checked domain maps ≡ Ok t → AreChecked domain maps
checked-of domain maps t is = go _ _ (has_ranks domain maps) refl (are_labels domain.labels) (first_bad_map domain maps) refl is
  where
    go : (e f : TransformError) (a : Bool) → has_ranks domain maps ≡ a → (b : Bool) (o : Option ℕ) → first_bad_map domain maps ≡ o → cond (not a) (Err e) (cond (not b) (Err f) (unless_bad o domain maps)) ≡ Ok t → AreChecked domain maps
    go e f false at b o none given = absurd (let no_such : ⊥ = cc in no_such)
    go e f true at false o none given = absurd (let no_such : ⊥ = cc in no_such)
    go e f true at true (Some k) none given = absurd (let no_such : ⊥ = cc in no_such)
    go e f true at true None none given = record { ranks = at; none = none }

-- ---- faults

-- the path at which data are at fault
abbrev pub IsTextFault : JsonError → Type 0
IsTextFault (json.BadMember path) = IsUtf8 path
IsTextFault json.Memory = Unit {0}

-- what is read of data, or a path of UTF-8
pub record Reads {A : Type 0} (P : A → Type 0) (r : Result A JsonError) : Type 0 where
  pub each : (a : A) → r ≡ Ok a → P a
  pub fault : (e : JsonError) → r ≡ Err e → IsTextFault e

ok : {A : Type 0} (P : A → Type 0) (a : A) → P a → Reads P (Ok a)
ok P a is = record { each = λ b e. let same : a ≡ b = cc in subst P same is; fault = λ x e. absurd (let no_such : ⊥ = cc in no_such) }

bad : {A : Type 0} (P : A → Type 0) (path : List ℕ) → IsUtf8 path → Reads P (Err (json.BadMember path))
bad P path text = record { each = λ a e. absurd (let no_such : ⊥ = cc in no_such); fault = λ x e. let same : json.BadMember path ≡ x = cc in subst IsTextFault same text }

failed : {A : Type 0} (P : A → Type 0) (e : JsonError) → IsTextFault e → Reads P (Err e)
failed P e text = record { each = λ a is. absurd (let no_such : ⊥ = cc in no_such); fault = λ x is. let same : e ≡ x = cc in subst IsTextFault same text }

abbrev Any : {A : Type 0} → A → Type 0
Any a = Unit {0}

closed : (s : List ℕ) → are_ascii s ≡ true → IsUtf8 s
closed = IsUtf8-are_ascii

reads_then : {A B : Type 0} (P : A → Type 0) (Q : B → Type 0) (r : Result A JsonError) (f : A → Result B JsonError) → Reads P r → ((a : A) → P a → Reads Q (f a)) → Reads Q (r >>= f)
reads_then P Q (Ok a) f one each = each a (one.each a refl)
reads_then P Q (Err e) f one each = failed Q e (one.fault e refl)

reads_at : {A : Type 0} (P : A → Type 0) (path : List ℕ) (o : Option A) → IsUtf8 path → May P o → Reads P (found_at path o)
reads_at P path None text may = bad P path text
reads_at P path (Some a) text may = ok P a may

reads_if : {A : Type 0} (P : A → Type 0) (t : Bool) (x y : Result A JsonError) → Reads P x → Reads P y → Reads P (cond t x y)
reads_if P true x y one two = one
reads_if P false x y one two = two

may_any : {A : Type 0} (o : Option A) → May Any o
may_any None = tt
may_any (Some a) = tt

faulty : (path : List ℕ) (good : Bool) → IsUtf8 path → Reads Any (unless_faulty path good)
faulty path true text = ok Any tt tt
faulty path false text = bad Any path text

fault_none : (o : Option (List ℕ)) → May IsUtf8 o → Reads Any (no_fault o)
fault_none None may = ok Any tt tt
fault_none (Some path) may = bad Any path may

members_text : AllByRecursion IsUtf8 list_members
members_text =
    (closed (codes "input_inclusive_min") refl, (closed (codes "input_exclusive_max") refl, (closed (codes "input_inclusive_max") refl, (closed (codes "input_shape") refl, (closed (codes "input_labels") refl, tt)))))

find_text : (p : List ℕ → Bool) (names : List (List ℕ)) → AllByRecursion IsUtf8 names → May IsUtf8 (find p names)
find_text p [] all = tt
find_text p (k ∷ ks) all = go (p k) (find_text p ks all.1)
  where
    go : (t : Bool) → May IsUtf8 (find p ks) → May IsUtf8 (cond t (Some k) (find p ks))
    go true rest = all.0
    go false rest = rest

rank_reads : (items : Option (List Data)) (name : Option (List ℕ)) → May IsUtf8 name → Reads Any (rank_by items name)
rank_reads (Some items) name may = reads_if Any _ _ _ (ok Any (length items) tt) (bad Any (codes "input_rank") (closed (codes "input_rank") refl))
rank_reads None None may = bad Any (codes "input_rank") (closed (codes "input_rank") refl)
rank_reads None (Some name) may = bad Any name may

exclusive_text : IsUtf8 (codes "input_exclusive_max")
exclusive_text = closed (codes "input_exclusive_max") refl

inclusive_text : IsUtf8 (codes "input_inclusive_max")
inclusive_text = closed (codes "input_inclusive_max") refl

shape_text : IsUtf8 (codes "input_shape")
shape_text = closed (codes "input_shape") refl

abbrev AreTexts : List (List ℕ) → Type 0
AreTexts labels = AllByRecursion IsUtf8 labels

no_labels : (rank : ℕ) → AreTexts (replicate rank [])
no_labels zero = tt
no_labels (suc rank) = (IsUtf8-nil, no_labels rank)

module _ (n : ℕ) (d : Data) (held : IsHeld n d) where
  items_len : (name : List ℕ) (rank : ℕ) → May (λ xs. AllByRecursion (IsHeld n) xs) (items_of_len d name rank)
  items_len name rank =
      may_then (AreItems n) (λ xs. AllByRecursion (IsHeld n) xs) (λ items. where_so (length items == rank) (Some items)) (items_at d name)
      (may_then (IsHeld n) (AreItems n) list_items (get name d) (get_held n name d held) (λ x is. items_held n x is))
      (λ items are. may_so (λ xs. AllByRecursion (IsHeld n) xs) (length items == rank) (Some items) (λ same. are.each))

  labels_read : (rank : ℕ) → Reads AreTexts (labels_of d rank)
  labels_read rank =
      reads_if AreTexts (has d (codes "input_labels")) (found_at (codes "input_labels") (given_labels d rank)) (Ok (replicate rank []))
      (reads_at AreTexts (codes "input_labels") (given_labels d rank) (closed (codes "input_labels") refl)
      (may_then AreTexts AreTexts (λ labels. where_so (are_labels labels) (Some labels)) (option_and_then (all_of as_str) (items_of_len d (codes "input_labels") rank))
      (may_then (λ xs. AllByRecursion (IsHeld n) xs) AreTexts (all_of as_str) (items_of_len d (codes "input_labels") rank) (items_len (codes "input_labels") rank)
      (λ xs all. first_part (length xs) (all_of as_str xs) (may_all (IsHeld n) IsUtf8 as_str xs all (λ x is. str_held n x is))))
      (λ labels texts. may_so AreTexts (are_labels labels) (Some labels) (λ good. texts))))
      (ok AreTexts (replicate rank []) (no_labels rank))
    where
      first_part : (m : ℕ) (o : Option (List (List ℕ))) → May (λ ys. AllByRecursion IsUtf8 ys × (length ys ≡ m)) o → May AreTexts o
      first_part m None may = tt
      first_part m (Some ys) may = may.0

  abbrev HasTexts : Domain → Type 0
  HasTexts domain = AreTexts domain.labels

  domain_read : Reads HasTexts (domain_of d)
  domain_read =
      reads_then Any HasTexts (rank_of d) _
      (reads_if Any (has d (codes "input_rank")) (found_at (codes "input_rank") (option_and_then rank_number (get (codes "input_rank") d))) (rank_of_lists d)
      (reads_at Any (codes "input_rank") _ (closed (codes "input_rank") refl) (may_any _)) (rank_reads (first_some (items_at d) list_members) (find (has d) list_members) (find_text (has d) list_members members_text)))
      (λ rank any. reads_then Any HasTexts (lowers_of d rank) _
      (reads_if Any (has d (codes "input_inclusive_min")) _ _ (reads_at Any (codes "input_inclusive_min") _ (closed (codes "input_inclusive_min") refl) (may_any _)) (ok Any _ tt))
      (λ lowers any_lowers. reads_then Any HasTexts (dims_of d lowers) _
      (reads_if Any (has d (codes "input_exclusive_max")) _ _
      (reads_if Any (has d (codes "input_inclusive_max")) _ _ (bad Any (codes "input_inclusive_max") inclusive_text)
      (reads_if Any (has d (codes "input_shape")) _ _ (bad Any (codes "input_shape") shape_text) (reads_at Any (codes "input_exclusive_max") _ exclusive_text (may_any _))))
      (reads_if Any (has d (codes "input_inclusive_max")) _ _
      (reads_if Any (has d (codes "input_shape")) _ _ (bad Any (codes "input_shape") shape_text) (reads_at Any (codes "input_inclusive_max") _ inclusive_text (may_any _)))
      (reads_if Any (has d (codes "input_shape")) _ _ (reads_at Any (codes "input_shape") _ shape_text (may_any _))
      (reads_at Any (codes "input_inclusive_min") (open_dims lowers) (closed (codes "input_inclusive_min") refl) (may_any _)))))
      (λ dims any_dims. reads_then AreTexts HasTexts (labels_of d rank) _ (labels_read rank) (λ labels texts. ok HasTexts (record { dims = dims; labels = labels }) texts))))

  maps_read : (dims : List Bounds) → Reads Any (maps_of d dims)
  maps_read dims =
      reads_if Any (has d (codes "output")) _ _
      (reads_then (λ xs. AllByRecursion (IsHeld n) xs × (0 + length xs ≤ 32)) Any (found_at (codes "output") items) (maps_from 0 dims)
      (reads_at (λ xs. AllByRecursion (IsHeld n) xs × (0 + length xs ≤ 32)) (codes "output") items (closed (codes "output") refl)
      (may_then (AreItems n) (λ xs. AllByRecursion (IsHeld n) xs × (0 + length xs ≤ 32)) (λ xs. where_so (nat_le (length xs) 32) (Some xs)) (option_and_then list_items (get (codes "output") d))
      (may_then (IsHeld n) (AreItems n) list_items (get (codes "output") d) (get_held n (codes "output") d held) (λ x is. items_held n x is))
      (λ xs are. may_so (λ ys. AllByRecursion (IsHeld n) ys × (0 + length ys ≤ 32)) (nat_le (length xs) 32) (Some xs) (λ few. let low = leb-true (length xs) 32 few in (are.each, omega (arith, low))))))
      (λ xs all. from 0 xs all.0 all.1)) (ok Any _ tt)
    where
      items : Option (List Data)
      items = option_and_then (λ xs. where_so (nat_le (length xs) 32) (Some xs)) (option_and_then list_items (get (codes "output") d))

      one : (path : List ℕ) (x : Data) → IsUtf8 path → IsHeld n x → Reads Any (map_of path dims x)
      one path x text is =
          reads_then Any Any (unless_faulty path (is_some (as_object x))) _ (faulty path (is_some (as_object x)) text)
          (λ u any. reads_then Any Any (no_fault (option_map (λ name. path ++ codes "/" ++ name) (faulty_member (length dims) (is_some (array_in dims x)) x))) _
          (fault_none _
          (may_map IsUtf8 IsUtf8 (λ name. path ++ codes "/" ++ name) (faulty_member (length dims) (is_some (array_in dims x)) x)
          (least_text _ (filter_texts (λ name. not (is_good (length dims) (is_some (array_in dims x)) x name)) (member_names x) (member_names_held n x is)))
          (λ name good. IsUtf8-append (path ++ codes "/") name (IsUtf8-append path (codes "/") text (closed (codes "/") refl)) good)))
          (λ v none. ok Any _ tt))

      from : (output : ℕ) (xs : List Data) → AllByRecursion (IsHeld n) xs → output + length xs ≤ 32 → Reads Any (maps_from output dims xs)
      from output [] all low = ok Any [] tt
      from output (x ∷ xs) all low =
          reads_then Any Any (map_of (codes "output/" ++ decimal output) dims x) _
          (one (codes "output/" ++ decimal output) x (IsUtf8-append (codes "output/") (decimal output) (closed (codes "output/") refl) (IsUtf8-from_ascii (decimal output) (IsAscii-decimal output (omega (arith, low))))) all.0)
          (λ m any. reads_then Any Any (maps_from (output + 1) dims xs) _ (from (output + 1) xs all.1 (omega (arith, low))) (λ maps more. ok Any (m ∷ maps) tt))

  -- a transform of which another one can be seen, or the path of a fault
  pub transform_reads : Reads IsFurther (transform_of d)
  transform_reads =
      reads_then Any IsFurther (unless_faulty [] (is_some (as_object d))) _ (faulty [] (is_some (as_object d)) IsUtf8-nil)
      (λ u any. reads_then Any IsFurther (no_fault (least_unknown transform_members d)) _ (fault_none (least_unknown transform_members d) (unknown_held n transform_members d held))
      (λ v none. inner))
    where
      made : (domain : Domain) (maps : List OutMap) → domain_of d ≡ Ok domain → maps_of d domain.dims ≡ Ok maps → AreTexts domain.labels → IsFurther (record { domain = domain; maps = map plain_map maps })
      made domain maps is are texts =
          let good = domain-good d domain is in
          let ok = checked-of domain maps _ (accepted d domain maps is are) in
          let parts = and_parts (nat_le (length domain.dims) 32 && (length domain.labels == length domain.dims)) (nat_le (length maps) 32) ok.ranks in
          let count = length-map maps plain_map in
          let few = leb-true (length maps) 32 parts.1 in
          record { labels = texts; maps = maps_led domain.dims 0 maps good.rank ok.none; few = good.rank; outputs = omega (arith, count, few) }

      second : (domain : Domain) → domain_of d ≡ Ok domain → AreTexts domain.labels → (r : Result (List OutMap) JsonError) → maps_of d domain.dims ≡ r → Reads Any r → Reads IsFurther (r >>= (λ maps. Ok (record { domain = domain; maps = map plain_map maps })))
      second domain is texts (Ok maps) are any = ok IsFurther _ (made domain maps is are texts)
      second domain is texts (Err e) are any = failed IsFurther e (any.fault e refl)

      first : (r : Result Domain JsonError) → domain_of d ≡ r → Reads HasTexts r → Reads IsFurther (r >>= (λ domain. maps_of d domain.dims >>= (λ maps. Ok (record { domain = domain; maps = map plain_map maps }))))
      first (Ok domain) is texts = second domain is (texts.each domain refl) (maps_of d domain.dims) refl (maps_read domain.dims)
      first (Err e) is texts = failed IsFurther e (texts.fault e refl)

      inner : Reads IsFurther (transform_in d)
      inner = first (domain_of d) refl domain_read
