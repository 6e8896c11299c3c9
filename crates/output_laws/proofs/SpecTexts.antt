-- What is said of a Spec is UTF-8, where its texts are.
use Rattle.std.proofs.Common.{◌≡◌, ℕ, zero, suc, ◌-◌, nat_eq, nat_lt, eqb-true, Bool, true, false, cond, codes, decimal, List, [], ◌∷◌, ◌++◌, length, take, drop, Option, Some, None, option_and_then, is_some, Result, Ok, Err, IsUtf8, refl, sym, ap, subst, arith}
use Rattle.std.specs.List.{AllByRecursion, ends_with}
use Rattle.std.specs.Cmp.Lexicographic.{pointwise}
use Rattle.std.specs.Str.{bytes_eq}
use Rattle.std.proofs.lemmas.Bool.{and_parts}
use Rattle.std.proofs.lemmas.Str.{IsUtf8-nil, IsUtf8-take, IsCharBoundary-from_drop}
use Rattle.json.proofs.Printed.Utf8.{IsUtf8-are_ascii, are_ascii}
use Rattle.serde_json.specs.Data.{Data}
use Rattle.serde_json.specs.Find.{get, as_object, as_str}
use Rattle.json_forms.specs.Lists.{list_items}
use Rattle.json_forms.specs.Members.{is_among, least_unknown}
use Rattle.cells.specs.declared.dtype.Dtype.{Dtype}
use Rattle.index_transform.specs.Transforms.{DomainAndMaps}
use Rattle.transform_json.specs.Transforms.{transform_of}
use Rattle.transform_json.specs.declared.error.JsonError.{JsonError}
use Rattle.transform_json.specs.declared.error.JsonError.TheVariants as json
use Rattle.history.specs.declared.Want.{Want}
use Rattle.history.specs.declared.Want.TheVariants as want
use Rattle.meta_forms.specs.Judged.{text_in}
use Rattle.meta_forms.specs.declared.error.Fault.{Fault}
use Rattle.meta_forms.specs.declared.error.Fault.TheVariants.{Bad, Unsupported}
use Rattle.meta_forms.specs.declared.error.MetaError.{MetaError}
use Rattle.meta_forms.specs.declared.error.MetaError.TheVariants as meta
use Rattle.want_forms.specs.Asking.{comes_before}
use Rattle.want_forms.specs.Wants.{want_of}
use Rattle.want_forms.specs.declared.format.Format.{Format}
use Rattle.spec_forms.specs.Faults.{joined, fault_at, at_path, ◌>>=◌, none_before, none_left, in_turn, judged_in_turn}
use Rattle.spec_forms.specs.Kvstores.{judged_mount, right_path, judged_path, kvstore_members, below_in, location_in, location_at}
use Rattle.spec_forms.specs.Members.{judged_flag, judged_dtype, judged_absent, required, fault_in, placed, transform_at, false_at, tail_at}
use Rattle.spec_forms.specs.Numbers.{given_members, given_at}
use Rattle.spec_forms.specs.Paths.{is_path, without_slash}
use Rattle.spec_forms.specs.Stored.{may_create, stored_members, asked_at, stored_leaf, own_dtype, asked_in, stored_at}
use Rattle.spec_forms.specs.declared.error.SpecError.{SpecError}
use Rattle.spec_forms.specs.declared.error.SpecError.TheVariants as spec
use Rattle.spec_forms.specs.declared.leaf.SpecLeaf.{SpecLeaf}
use Rattle.spec_open.specs.Nodes.{Read, Reader, few_leaves, leaf_node, base_at, cast_in, cast_members, Layers, layers_behind, few_layers, layers_of, layers_at, stack_in, stack_members}
use Rattle.spec_open.specs.Specs.{nested, driver_named, judged_driver, driver_at, node_by, node_of, inner_of, spec_at, plan_of, plan_of_spec}
use Rattle.spec_open.specs.declared.plan.OpenPlan.{OpenPlan}
use Rattle.spec_open.specs.declared.tree.Tree.{Tree}
use Rattle.history.proofs.Transactions.{all_with}
use Rattle.line_forms.specs.declared.LineError.TheVariants as line
use Rattle.transcript_laws.specs.Meanings.{line_in}
use Rattle.transcript_laws.specs.Transcript.{mount}
use Rattle.output_laws.specs.Held.{IsHeld}
use Rattle.output_laws.specs.TextSpecs.{IsSmallRefused, IsTextPlace, IsTextPlanned, SpecsAreTexts}
use Rattle.output_laws.proofs.HeldData.{May, may_then, get_held, str_held, AreItems, items_held, unknown_held}
use Rattle.output_laws.proofs.HeldTransforms.{Reads, transform_reads}
use Rattle.output_laws.proofs.OutcomeTexts.{decimal_text}
use Rattle.output_laws.proofs.PlanRanks.{either}
use Rattle.output_laws.proofs.SmallMaps.{IsFurther}
use Rattle.output_laws.proofs.SmallPlans.{joined_text}
use Rattle.output_laws.proofs.WantTexts.{Tells, want_tells}

abbrev IsTextError : SpecError → Type 0
IsTextError (spec.BadSpec path) = IsUtf8 path
IsTextError (spec.Unsupported path) = IsUtf8 path
IsTextError spec.Memory = Unit {0}

-- a part, or a fault at a path of UTF-8
record Good {A : Type 0} (P : A → Type 0) (r : Result A SpecError) : Type 0 where
  each : (a : A) → r ≡ Ok a → P a
  fault : (e : SpecError) → r ≡ Err e → IsTextError e

good : {A : Type 0} (P : A → Type 0) (a : A) → P a → Good P (Ok a)
good P a is = record { each = λ b e. let same : a ≡ b = cc in subst P same is; fault = λ x e. absurd (let no_such : ⊥ = cc in no_such) }

failed : {A : Type 0} (P : A → Type 0) (x : SpecError) → IsTextError x → Good P (Err x)
failed P x is = record { each = λ a e. absurd (let no_such : ⊥ = cc in no_such); fault = λ y e. let same : x ≡ y = cc in subst IsTextError same is }

then : {A B : Type 0} (P : A → Type 0) (Q : B → Type 0) (r : Result A SpecError) (f : A → Result B SpecError) → Good P r → ((a : A) → P a → Good Q (f a)) → Good Q (r >>= f)
then P Q (Ok a) f is each = each a (is.each a refl)
then P Q (Err e) f is each = failed Q e (is.fault e refl)

abbrev any : {A : Type 0} → A → Type 0
any a = Unit {0}

closed : (s : List ℕ) → are_ascii s ≡ true → IsUtf8 s
closed s is = IsUtf8-are_ascii s is

-- ---- faults at paths

fault_text : (path : List ℕ) (f : Fault) → IsUtf8 path → IsTextError (fault_at path f)
fault_text path Bad text = text
fault_text path Unsupported text = text

at_good : {A : Type 0} (P : A → Type 0) (path : List ℕ) (r : Result A Fault) → IsUtf8 path → ((a : A) → r ≡ Ok a → P a) → Good P (at_path path r)
unfolding at_path
at_good P path (Ok a) text each = good P a (each a refl)
at_good P path (Err f) text each = failed P (fault_at path f) (fault_text path f text)

before_good : (path : List ℕ) (unknown : Option (List ℕ)) (name : List ℕ) → IsUtf8 path → May IsUtf8 unknown → Good any (none_before path unknown name)
unfolding none_before
before_good path None name text may = good any tt tt
before_good path (Some k) name text may = go (comes_before k name)
  where
    go : (t : Bool) → Good any (cond t (Err (spec.BadSpec (joined path k))) (Ok (tt {0})))
    go true = failed any (spec.BadSpec (joined path k)) (joined_text path k text may)
    go false = good any tt tt

left_good : (path : List ℕ) (unknown : Option (List ℕ)) → IsUtf8 path → May IsUtf8 unknown → Good any (none_left path unknown)
unfolding none_left
left_good path None text may = good any tt tt
left_good path (Some k) text may = failed any (spec.BadSpec (joined path k)) (joined_text path k text may)

turn_good : {A : Type 0} (P : A → Type 0) (path : List ℕ) (unknown : Option (List ℕ)) (name : List ℕ) (given : Result A SpecError) → IsUtf8 path → May IsUtf8 unknown → Good P given → Good P (in_turn path unknown name given)
unfolding in_turn
turn_good P path unknown name given text may is = then any P (none_before path unknown name) (λ x. given) (before_good path unknown name text may) (λ x one. is)

judged_good : {A : Type 0} (path : List ℕ) (unknown : Option (List ℕ)) (name : List ℕ) (judged : Result A Fault) → IsUtf8 path → May IsUtf8 unknown → IsUtf8 name → Good any (judged_in_turn path unknown name judged)
unfolding judged_in_turn
judged_good path unknown name judged text may is = turn_good any path unknown name (at_path (joined path name) judged) text may (at_good any (joined path name) judged (joined_text path name text is) (λ a e. tt))

false_good : (name path : List ℕ) (unknown : Option (List ℕ)) (d : Data) → IsUtf8 name → IsUtf8 path → May IsUtf8 unknown → Good any (false_at name path unknown d)
unfolding false_at
false_good name path unknown d is text may = judged_good path unknown name _ text may is

-- ---- places

slash_of : (ys : List ℕ) → pointwise nat_eq (47 ∷ []) ys ≡ true → ys ≡ 47 ∷ []
slash_of [] is = absurd (let no_such : ⊥ = cc in no_such)
slash_of (y ∷ []) is = ap (λ b. b ∷ []) (sym (eqb-true 47 y (and_parts (nat_eq 47 y) true is).0))
slash_of (y ∷ z ∷ zs) is = let wants : false ≡ true = (and_parts (nat_eq 47 y) false is).1 in absurd (cc)

without_text : (text : List ℕ) → IsUtf8 text → IsUtf8 (without_slash text)
without_text text is = go (ends_with nat_eq text (codes "/")) refl
  where
    go : (t : Bool) → ends_with nat_eq text (codes "/") ≡ t → IsUtf8 (cond t (take (length text - 1) text) text)
    go true so =
        let last : drop (length text - 1) text ≡ 47 ∷ [] = slash_of (drop (length text - 1) text) so in
        IsUtf8-take text (length text - 1) is (IsCharBoundary-from_drop text (length text - 1) (omega arith) (subst IsUtf8 (sym last) (closed (47 ∷ []) refl)))
    go false so = is

path_text : (o : Option (List ℕ)) (path : List ℕ) → May IsUtf8 o → judged_path o ≡ Ok path → IsUtf8 path
path_text None path may e = absurd (let no_such : ⊥ = cc in no_such)
path_text (Some text) path may e = go (is_path (without_slash text)) e
  where
    go : (t : Bool) → right_path (cond t (Some (without_slash text)) None) ≡ Ok path → IsUtf8 path
    go true given = let same : without_slash text ≡ path = cc in subst IsUtf8 same (without_text text may)
    go false given = absurd (let no_such : ⊥ = cc in no_such)

mount_text : (names : List (List ℕ)) (o : Option (List ℕ)) (name : List ℕ) → May IsUtf8 o → judged_mount names o ≡ Ok name → IsUtf8 name
mount_text names None name may e = absurd (let no_such : ⊥ = cc in no_such)
mount_text names (Some text) name may e = go (is_among text names) e
  where
    go : (t : Bool) → cond t (Ok text) (Err Unsupported) ≡ Ok name → IsUtf8 name
    go true given = let same : text ≡ name = cc in subst IsUtf8 same may
    go false given = absurd (let no_such : ⊥ = cc in no_such)

-- each leaf that is made of it lies at texts of UTF-8
abbrev IsPlacedBy : {L : Type 0} → (L → Want → Bool → Bool → SpecLeaf) → L → Type 0
IsPlacedBy make l = (w : Want) (a b : Bool) → IsTextPlace (make l w a b)

place_of : (m p : List ℕ) → IsUtf8 m → IsUtf8 p → (w : Want) (a b : Bool) → IsTextPlace (stored_leaf (record { mount = m; path = p }) w a b)
place_of m p one two (want.Zarr w) a b = (one, two)
place_of m p one two (want.N5 w) a b = (one, two)
place_of m p one two (want.Zarr3 w) a b = (one, two)

asked_at_good : (path : List ℕ) (r : Result Want MetaError) → IsUtf8 path → Tells r → Good any (asked_at path r)
unfolding asked_at
asked_at_good path (Ok w) text is = good any w tt
asked_at_good path (Err meta.NotJson) text is = failed any (spec.BadSpec path) text
asked_at_good path (Err (meta.BadMember name)) text is = failed any (spec.BadSpec (joined path name)) (joined_text path name text (is.fault (meta.BadMember name) refl))
asked_at_good path (Err (meta.Unsupported name)) text is = failed any (spec.Unsupported (joined path name)) (joined_text path name text (is.fault (meta.Unsupported name) refl))
asked_at_good path (Err meta.Memory) text is = failed any spec.Memory tt

module _ (n : ℕ) where
  text_held : (k : List ℕ) (d : Data) → IsHeld n d → May IsUtf8 (text_in k d)
  text_held k d held = may_then (IsHeld n) IsUtf8 as_str (get k d) (get_held n k d held) (λ x h. str_held n x h)

  below_good : (path : List ℕ) (unknown : Option (List ℕ)) (d : Data) → IsUtf8 path → May IsUtf8 unknown → IsHeld n d → Good IsUtf8 (below_in path unknown d)
  unfolding below_in judged_in_turn
  below_good path unknown d text may held =
      then IsUtf8 IsUtf8 (in_turn path unknown (codes "path") (at_path (joined path (codes "path")) (judged_path (text_in (codes "path") d)))) _
      (turn_good IsUtf8 path unknown (codes "path") _ text may
      (at_good IsUtf8 (joined path (codes "path")) (judged_path (text_in (codes "path") d)) (joined_text path (codes "path") text (closed (codes "path") refl)) (λ p e. path_text (text_in (codes "path") d) p (text_held (codes "path") d held) e)))
      (λ below is. then any IsUtf8 (none_left path unknown) _ (left_good path unknown text may) (λ x one. good IsUtf8 below is))

  location_good : (names : List (List ℕ)) (path : List ℕ) (d : Data) → IsUtf8 path → IsHeld n d → Good (IsPlacedBy stored_leaf) (location_in names path d)
  unfolding location_in
  location_good names path d text held =
      then IsUtf8 (IsPlacedBy stored_leaf) (at_path (joined path (codes "driver")) (judged_mount names (text_in (codes "driver") d))) _
      (at_good IsUtf8 (joined path (codes "driver")) (judged_mount names (text_in (codes "driver") d)) (joined_text path (codes "driver") text (closed (codes "driver") refl))
      (λ m e. mount_text names (text_in (codes "driver") d) m (text_held (codes "driver") d held) e))
      (λ m is. then IsUtf8 (IsPlacedBy stored_leaf) (below_in path (least_unknown kvstore_members d) d) _ (below_good path (least_unknown kvstore_members d) d text (unknown_held n kvstore_members d held) held)
      (λ below also. good (IsPlacedBy stored_leaf) _ (place_of m below is also)))

  kind_good : {A : Type 0} (P : A → Type 0) (path : List ℕ) (object text : Bool) (r : Result A SpecError) → IsUtf8 path → Good P r → Good P (cond object r (cond text (Err (spec.Unsupported path)) (Err (spec.BadSpec path))))
  kind_good P path true text r is so = so
  kind_good P path false true r is so = failed P (spec.Unsupported path) is
  kind_good P path false false r is so = failed P (spec.BadSpec path) is

  at_location : (names : List (List ℕ)) (path : List ℕ) (o : Option Data) → IsUtf8 path → May (IsHeld n) o → Good (IsPlacedBy stored_leaf) (location_at names path o)
  unfolding location_at
  at_location names path None text may = failed (IsPlacedBy stored_leaf) (spec.BadSpec path) text
  at_location names path (Some d) text may = kind_good (IsPlacedBy stored_leaf) path (is_some (as_object d)) (is_some (as_str d)) (location_in names path d) text (location_good names path d text may)

  -- ---- leaves

  transform_good : (path : List ℕ) (o : Option Data) → IsUtf8 path → May (IsHeld n) o → Good any (transform_at path o)
  unfolding transform_at
  transform_good path None text may = good any None tt
  transform_good path (Some d) text may = go (transform_of d) (transform_reads n d may)
    where
      inner : (t : Bool) (at : List ℕ) → IsUtf8 at → IsUtf8 (cond t (joined path at) path)
      inner true at is = joined_text path at text is
      inner false at is = text

      go : (r : Result DomainAndMaps JsonError) → Reads IsFurther r → Good any (placed path d r)
      go (Ok t) reads = good any (Some t) tt
      go (Err (json.BadMember at)) reads = failed any (spec.BadSpec (fault_in path d at)) (inner (is_some (as_object d)) at (reads.fault (json.BadMember at) refl))
      go (Err json.Memory) reads = failed any spec.Memory tt

  tail_good : (path : List ℕ) (unknown : Option (List ℕ)) (d : Data) → IsUtf8 path → May IsUtf8 unknown → IsHeld n d → Good any (tail_at path unknown d)
  unfolding tail_at
  tail_good path unknown d text may held =
      then any any (judged_in_turn path unknown (codes "rank") (judged_absent (get (codes "rank") d))) _ (judged_good path unknown (codes "rank") _ text may (closed (codes "rank") refl)) (λ a one.
      then any any (judged_in_turn path unknown (codes "schema") (judged_absent (get (codes "schema") d))) _ (judged_good path unknown (codes "schema") _ text may (closed (codes "schema") refl)) (λ b two.
      then any any (false_at (codes "store_data_equal_to_fill_value") path unknown d) _ (false_good (codes "store_data_equal_to_fill_value") path unknown d (closed (codes "store_data_equal_to_fill_value") refl) text may) (λ c three.
      then any any (in_turn path unknown (codes "transform") (transform_at (joined path (codes "transform")) (get (codes "transform") d))) _
      (turn_good any path unknown (codes "transform") _ text may (transform_good (joined path (codes "transform")) (get (codes "transform") d) (joined_text path (codes "transform") text (closed (codes "transform") refl)) (get_held n (codes "transform") d held))) (λ t four.
      then any any (none_left path unknown) _ (left_good path unknown text may) (λ e five. good any t tt)))))

  asked_good : (format : Format) (path : List ℕ) (unknown : Option (List ℕ)) (d : Data) (create : Option Bool) (own : Option Dtype) → IsUtf8 path → May IsUtf8 unknown → IsHeld n d → Good any (asked_in format path unknown d create own)
  unfolding asked_in
  asked_good format path unknown d create own text may held =
      then any any (in_turn path unknown (codes "metadata") (asked_at (joined path (codes "metadata")) (want_of format own (get (codes "metadata") d)))) _
      (turn_good any path unknown (codes "metadata") _ text may
      (asked_at_good (joined path (codes "metadata")) (want_of format own (get (codes "metadata") d)) (joined_text path (codes "metadata") text (closed (codes "metadata") refl)) (want_tells n own format (get (codes "metadata") d) (get_held n (codes "metadata") d held))))
      (λ w one. then any any (judged_in_turn path unknown (codes "open") _) _ (judged_good path unknown (codes "open") _ text may (closed (codes "open") refl)) (λ so two. good any _ tt))

  stored_good : (names : List (List ℕ)) (format : Format) (path : List ℕ) (unknown : Option (List ℕ)) (d : Data) → IsUtf8 path → May IsUtf8 unknown → IsHeld n d → Good IsTextPlace (stored_at names format path unknown d)
  unfolding stored_at
  stored_good names format path unknown d text may held =
      then any IsTextPlace (false_at (codes "assume_metadata") path unknown d) _ (false_good (codes "assume_metadata") path unknown d (closed (codes "assume_metadata") refl) text may) (λ a one.
      then any IsTextPlace (judged_in_turn path unknown (codes "create") (judged_flag (get (codes "create") d))) _ (judged_good path unknown (codes "create") _ text may (closed (codes "create") refl)) (λ create two.
      then any IsTextPlace (false_at (codes "delete_existing") path unknown d) _ (false_good (codes "delete_existing") path unknown d (closed (codes "delete_existing") refl) text may) (λ b three.
      then any IsTextPlace (judged_in_turn path unknown (codes "dtype") (own_dtype format d)) _ (judged_good path unknown (codes "dtype") _ text may (closed (codes "dtype") refl)) (λ own four.
      then (IsPlacedBy stored_leaf) IsTextPlace (in_turn path unknown (codes "kvstore") (location_at names (joined path (codes "kvstore")) (get (codes "kvstore") d))) _
      (turn_good (IsPlacedBy stored_leaf) path unknown (codes "kvstore") _ text may (at_location names (joined path (codes "kvstore")) (get (codes "kvstore") d) (joined_text path (codes "kvstore") text (closed (codes "kvstore") refl)) (get_held n (codes "kvstore") d held))) (λ location is.
      then any IsTextPlace (asked_in format path unknown d create own) _ (asked_good format path unknown d create own text may held) (λ asks five. good IsTextPlace _ (is asks.want asks.may_open (may_create create))))))))

  given_good : (path : List ℕ) (unknown : Option (List ℕ)) (d : Data) → IsUtf8 path → May IsUtf8 unknown → Good IsTextPlace (given_at path unknown d)
  unfolding given_at
  given_good path unknown d text may =
      then any IsTextPlace (judged_in_turn path unknown (codes "array") _) _ (judged_good path unknown (codes "array") _ text may (closed (codes "array") refl)) (λ numbers one.
      then any IsTextPlace (false_at (codes "assume_metadata") path unknown d) _ (false_good (codes "assume_metadata") path unknown d (closed (codes "assume_metadata") refl) text may) (λ a two.
      then any IsTextPlace (false_at (codes "delete_existing") path unknown d) _ (false_good (codes "delete_existing") path unknown d (closed (codes "delete_existing") refl) text may) (λ b three.
      then any IsTextPlace (judged_in_turn path unknown (codes "dtype") _) _ (judged_good path unknown (codes "dtype") _ text may (closed (codes "dtype") refl)) (λ dtype four. good IsTextPlace _ tt))))

  -- ---- nodes

  abbrev ArePlaces : List SpecLeaf → Type 0
  ArePlaces leaves = AllByRecursion IsTextPlace leaves

  record IsRead (r : Read) : Type 0 where
    places : ArePlaces r.leaves

  record AreLayers (l : Layers) : Type 0 where
    places : ArePlaces l.leaves

  abbrev Reads_well : Reader → Type 0
  Reads_well read = (path : List ℕ) (leaves : List SpecLeaf) (d : Data) → IsUtf8 path → ArePlaces leaves → IsHeld n d → Good IsRead (read path leaves d)

  few_good : (path : List ℕ) (leaves : List SpecLeaf) → IsUtf8 path → Good any (few_leaves path leaves)
  unfolding few_leaves
  few_good path leaves text = go (nat_lt (length leaves) 256)
    where
      go : (t : Bool) → Good any (cond t (Ok (tt {0})) (Err (spec.BadSpec path)))
      go true = good any tt tt
      go false = failed any (spec.BadSpec path) text

  leaf_good : (path : List ℕ) (unknown : Option (List ℕ)) (leaves : List SpecLeaf) (d : Data) (given : Result SpecLeaf SpecError) → IsUtf8 path → May IsUtf8 unknown → ArePlaces leaves → IsHeld n d → Good IsTextPlace given → Good IsRead (leaf_node path unknown leaves d given)
  unfolding leaf_node
  leaf_good path unknown leaves d given text may places held is =
      then any IsRead (few_leaves path leaves) _ (few_good path leaves text) (λ a one.
      then IsTextPlace IsRead given _ is (λ leaf place.
      then any IsRead (tail_at path unknown d) _ (tail_good path unknown d text may held) (λ t two. good IsRead _ (record { places = all_with IsTextPlace leaves (leaf ∷ []) places (place, tt) }))))

  base_good : (read : Reader) → Reads_well read → (path : List ℕ) (leaves : List SpecLeaf) (o : Option Data) → IsUtf8 path → ArePlaces leaves → May (IsHeld n) o → Good IsRead (base_at read path leaves o)
  unfolding base_at
  base_good read well path leaves None text places may = failed IsRead (spec.BadSpec path) text
  base_good read well path leaves (Some d) text places may = well path leaves d text places may

  cast_good : (read : Reader) → Reads_well read → (path : List ℕ) (unknown : Option (List ℕ)) (leaves : List SpecLeaf) (d : Data) → IsUtf8 path → May IsUtf8 unknown → ArePlaces leaves → IsHeld n d → Good IsRead (cast_in read path unknown leaves d)
  unfolding cast_in
  cast_good read well path unknown leaves d text may places held =
      then any IsRead (false_at (codes "assume_metadata") path unknown d) _ (false_good (codes "assume_metadata") path unknown d (closed (codes "assume_metadata") refl) text may) (λ a one.
      then IsRead IsRead (in_turn path unknown (codes "base") (base_at read (joined path (codes "base")) leaves (get (codes "base") d))) _
      (turn_good IsRead path unknown (codes "base") _ text may (base_good read well (joined path (codes "base")) leaves (get (codes "base") d) (joined_text path (codes "base") text (closed (codes "base") refl)) places (get_held n (codes "base") d held))) (λ base is.
      then any IsRead (false_at (codes "delete_existing") path unknown d) _ (false_good (codes "delete_existing") path unknown d (closed (codes "delete_existing") refl) text may) (λ b two.
      then any IsRead (judged_in_turn path unknown (codes "dtype") (required (judged_dtype (get (codes "dtype") d)))) _ (judged_good path unknown (codes "dtype") _ text may (closed (codes "dtype") refl)) (λ to three.
      then any IsRead (tail_at path unknown d) _ (tail_good path unknown d text may held) (λ t four. good IsRead _ (record { places = is.places }))))))

  layers_good : (read : Reader) → Reads_well read → (path : List ℕ) (trees : List Tree) (leaves : List SpecLeaf) (ds : List Data) → IsUtf8 path → ArePlaces leaves → AllByRecursion (IsHeld n) ds → Good AreLayers (layers_behind read path trees leaves ds)
  layers_good read well path trees leaves [] text places held = good AreLayers _ (record { places = places })
  layers_good read well path trees leaves (d ∷ ds) text places held =
      then IsRead AreLayers (read (joined path (decimal (length trees))) leaves d) _ (well (joined path (decimal (length trees))) leaves d (joined_text path (decimal (length trees)) text (decimal_text (length trees))) places held.0)
      (λ layer is. layers_good read well path (trees ++ layer.tree ∷ []) layer.leaves ds text is.places held.1)

  few_held : (o : Option (List Data)) → May (AreItems n) o → May (AllByRecursion (IsHeld n)) (option_and_then few_layers o)
  few_held None may = tt
  few_held (Some items) may = go _
    where
      go : (t : Bool) → May (AllByRecursion (IsHeld n)) (cond t (Some items) None)
      go true = may.each
      go false = tt

  items_of : (o : Option Data) → May (IsHeld n) o → May (AreItems n) (option_and_then list_items o)
  items_of None may = tt
  items_of (Some d) may = items_held n d may

  layered : (read : Reader) → Reads_well read → (path : List ℕ) (leaves : List SpecLeaf) (o : Option (List Data)) → IsUtf8 path → ArePlaces leaves → May (AllByRecursion (IsHeld n)) o → Good AreLayers (layers_of read path leaves o)
  layered read well path leaves None text places may = failed AreLayers (spec.BadSpec path) text
  layered read well path leaves (Some items) text places may = layers_good read well path [] leaves items text places may

  stack_good : (read : Reader) → Reads_well read → (path : List ℕ) (unknown : Option (List ℕ)) (leaves : List SpecLeaf) (d : Data) → IsUtf8 path → May IsUtf8 unknown → ArePlaces leaves → IsHeld n d → Good IsRead (stack_in read path unknown leaves d)
  unfolding stack_in layers_at
  stack_good read well path unknown leaves d text may places held =
      then any IsRead (false_at (codes "assume_metadata") path unknown d) _ (false_good (codes "assume_metadata") path unknown d (closed (codes "assume_metadata") refl) text may) (λ a one.
      then any IsRead (false_at (codes "delete_existing") path unknown d) _ (false_good (codes "delete_existing") path unknown d (closed (codes "delete_existing") refl) text may) (λ b two.
      then any IsRead (judged_in_turn path unknown (codes "dtype") (judged_dtype (get (codes "dtype") d))) _ (judged_good path unknown (codes "dtype") _ text may (closed (codes "dtype") refl)) (λ dtype three.
      then AreLayers IsRead (in_turn path unknown (codes "layers") (layers_at read (joined path (codes "layers")) leaves (get (codes "layers") d))) _
      (turn_good AreLayers path unknown (codes "layers") _ text may
      (layered read well (joined path (codes "layers")) leaves (option_and_then few_layers (option_and_then list_items (get (codes "layers") d))) (joined_text path (codes "layers") text (closed (codes "layers") refl)) places
      (few_held (option_and_then list_items (get (codes "layers") d)) (items_of (get (codes "layers") d) (get_held n (codes "layers") d held))))) (λ layers is.
      then any IsRead (tail_at path unknown d) _ (tail_good path unknown d text may held) (λ t four. good IsRead _ (record { places = is.places }))))))

  abbrev Inner : Option Reader → Type 0
  Inner inner = (read : Reader) → inner ≡ Some read → Reads_well read

  nested_good : (inner : Option Reader) (path : List ℕ) (f : Reader → Result Read SpecError) → IsUtf8 path → ((read : Reader) → inner ≡ Some read → Good IsRead (f read)) → Good IsRead (nested inner path f)
  nested_good None path f text each = failed IsRead (spec.BadSpec path) text
  nested_good (Some read) path f text each = each read refl

  module _ (names : List (List ℕ)) (inner : Option Reader) (well : Inner inner) (path : List ℕ) (leaves : List SpecLeaf) (d : Data) (text_is : IsUtf8 path) (places : ArePlaces leaves) (held : IsHeld n d) where
    -- the driver's name tells which node is read
    by_named : (at text : List ℕ) → IsUtf8 at → Good IsRead (at_path at (driver_named text) >>= node_by names inner path leaves d)
    unfolding at_path node_by
    by_named at text at_is =
        let none = driver_named [] in
        let stack = cond (bytes_eq text (codes "stack")) (driver_named (codes "stack")) (driver_named []) in
        let cast = cond (bytes_eq text (codes "cast")) (driver_named (codes "cast")) (cond (bytes_eq text (codes "stack")) (driver_named (codes "stack")) (driver_named [])) in
        let array = cond (bytes_eq text (codes "array")) (driver_named (codes "array")) (cond (bytes_eq text (codes "cast")) (driver_named (codes "cast")) (cond (bytes_eq text (codes "stack")) (driver_named (codes "stack")) (driver_named []))) in
        let zarr3 = cond (bytes_eq text (codes "zarr3")) (driver_named (codes "zarr3")) array in
        let n5 = cond (bytes_eq text (codes "n5")) (driver_named (codes "n5")) zarr3 in
        let unknown = unknown_held n stored_members d held in
        either (bytes_eq text (codes "zarr")) (driver_named (codes "zarr")) n5 (λ j. Good IsRead (at_path at j >>= node_by names inner path leaves d))
        (leaf_good path (least_unknown stored_members d) leaves d _ text_is unknown places held (stored_good names _ path (least_unknown stored_members d) d text_is unknown held))
        (either (bytes_eq text (codes "n5")) (driver_named (codes "n5")) zarr3 (λ j. Good IsRead (at_path at j >>= node_by names inner path leaves d))
        (leaf_good path (least_unknown stored_members d) leaves d _ text_is unknown places held (stored_good names _ path (least_unknown stored_members d) d text_is unknown held))
        (either (bytes_eq text (codes "zarr3")) (driver_named (codes "zarr3")) array (λ j. Good IsRead (at_path at j >>= node_by names inner path leaves d))
        (leaf_good path (least_unknown stored_members d) leaves d _ text_is unknown places held (stored_good names _ path (least_unknown stored_members d) d text_is unknown held))
        (either (bytes_eq text (codes "array")) (driver_named (codes "array")) cast (λ j. Good IsRead (at_path at j >>= node_by names inner path leaves d))
        (leaf_good path (least_unknown given_members d) leaves d _ text_is (unknown_held n given_members d held) places held (given_good path (least_unknown given_members d) d text_is (unknown_held n given_members d held)))
        (either (bytes_eq text (codes "cast")) (driver_named (codes "cast")) stack (λ j. Good IsRead (at_path at j >>= node_by names inner path leaves d))
        (nested_good inner path (λ read. cast_in read path (least_unknown cast_members d) leaves d) text_is (λ read e. cast_good read (well read e) path (least_unknown cast_members d) leaves d text_is (unknown_held n cast_members d held) places held))
        (either (bytes_eq text (codes "stack")) (driver_named (codes "stack")) none (λ j. Good IsRead (at_path at j >>= node_by names inner path leaves d))
        (nested_good inner path (λ read. stack_in read path (least_unknown stack_members d) leaves d) text_is (λ read e. stack_good read (well read e) path (least_unknown stack_members d) leaves d text_is (unknown_held n stack_members d held) places held))
        (failed IsRead (spec.Unsupported at) at_is))))))

    by_judged : (at : List ℕ) (o : Option (List ℕ)) → IsUtf8 at → Good IsRead (at_path at (judged_driver o) >>= node_by names inner path leaves d)
    unfolding at_path
    by_judged at None is = failed IsRead (spec.BadSpec at) is
    by_judged at (Some text) is = by_named at text is

    node_good : Good IsRead (node_of names inner path leaves d)
    unfolding node_of driver_at
    node_good = by (text_in (codes "driver") d) (is_some (as_object d)) (is_some (as_str d))
      where
        by : (o : Option (List ℕ)) (b c : Bool) → Good IsRead (cond b (at_path (joined path (codes "driver")) (judged_driver o)) (cond c (Err (spec.Unsupported path)) (Err (spec.BadSpec path))) >>= node_by names inner path leaves d)
        by o true c = by_judged (joined path (codes "driver")) o (joined_text path (codes "driver") text_is (closed (codes "driver") refl))
        by o false true = failed IsRead (spec.Unsupported path) text_is
        by o false false = failed IsRead (spec.BadSpec path) text_is

  spec_good : (names : List (List ℕ)) (room : ℕ) → Reads_well (spec_at names room)
  unfolding inner_of
  spec_good names zero path leaves d text places held = node_good names None (λ read e. absurd (let no_such : ⊥ = cc in no_such)) path leaves d text places held
  spec_good names (suc room) path leaves d text places held =
      node_good names (Some (spec_at names room)) (λ read e. let same : spec_at names room ≡ read = cc in subst Reads_well same (spec_good names room)) path leaves d text places held

  abbrev ArePlanned : OpenPlan → Type 0
  ArePlanned plan = ArePlaces plan.leaves

  plan_good : (names : List (List ℕ)) (d : Data) → IsHeld n d → Good ArePlanned (plan_of_spec names d)
  plan_good names d held = then IsRead ArePlanned (spec_at names 16 [] [] d) _ (spec_good names 16 [] [] d IsUtf8-nil tt held) (λ r is. good ArePlanned (plan_of r) is.places)

refused_text : (e : SpecError) → IsTextError e → IsSmallRefused (line_in (Err (line.Spec e)))
refused_text (spec.BadSpec path) is = is
refused_text (spec.Unsupported path) is = is
refused_text spec.Memory is = IsUtf8-nil

-- what is said of Specs
pub specs_texts : SpecsAreTexts
specs_texts n d held = by (plan_of_spec (mount ∷ []) d) (plan_good n (mount ∷ []) d held)
  where
    by : (r : Result OpenPlan SpecError) → Good (ArePlanned n) r → IsTextPlanned r
    by (Ok plan) is = is.each plan refl
    by (Err e) is = refused_text e (is.fault e refl)
