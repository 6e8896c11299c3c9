-- Rows of nested lists that were put, and those that are left.
use Rattle.std.proofs.Common.{◌≡◌, ◌≢◌, Bool, false, subst, if◌then◌else◌, ℕ, zero, suc, ◌+◌, ◌-◌, ◌<◌, ◌≤◌, List, [], ◌∷◌, ◌++◌, map, length, get_or, take, drop, eqb, inl, inr, true, Option, Some, None, option_map, refl, sym, ap, ◌∙◌, append_assoc, append-nil, add-one, drop-cons, arith}
use Rattle.std.proofs.Math.ListN.{drop_of_length-le}
use Rattle.std.proofs.lemmas.List.{length-map}
use Rattle.std.proofs.lemmas.Bool.Decides.{nat_tests}
use Rattle.std.specs.Prelude.{option_and_then, ◌==◌}
use Rattle.std.specs.List.{flat_map}
use Rattle.serde_json.specs.Data.{Data}
use Rattle.serde_json.specs.View.{view}
use Rattle.serde_json.specs.declared.value.Value.{Value}
use Rattle.json_forms.specs.Lists.{list_items, all_of}
use Rattle.cells.specs.declared.dtype.Dtype.{Dtype}
use Rattle.spec_forms.specs.Numbers.{sizes_below, sizes_by, nested_sizes, nested_words}
use Rattle.std.proofs.Math.Seq.{take-length}
use Rattle.std.proofs.lemmas.Bool.Decides.{eqb_tells}

abbrev where_so : {A : Type 0} → Bool → Option A → Option A
where_so test o = if test then o else None

eqb-true : (a b : ℕ) → a ≡ b → eqb a b ≡ true
eqb-true a b h = elim (eqb_tells a b) [ inl t ↦ t.0 | inr t ↦ absurd (t.1 h) ]

-- the sizes behind the first
abbrev pub behind : List ℕ → List ℕ
behind sizes = take (length sizes - 1) (drop 1 sizes)

behind-cons : (s : ℕ) (ss : List ℕ) → behind (s ∷ ss) ≡ ss
behind-cons s ss = let n : length (s ∷ ss) - 1 ≡ length ss = omega arith in rw n (take-length ss)

module _ (dtype : Option Dtype) where
  -- rows one after another
  abbrev pub joined : List (List ℕ) → List ℕ
  joined rows = flat_map (λ row. row) rows

  -- what stands before, followed by the entries of all rows, is what was put, followed by those of the rows from i on
  abbrev pub IsPut : List ℕ → List Value → ℕ → List ℕ → List ℕ → Type 0
  IsPut sizes items i before put =
      option_map (λ rows. before ++ joined rows) (all_of (nested_words dtype sizes) (map view items))
      ≡ option_map (λ rows. put ++ joined rows) (all_of (nested_words dtype sizes) (map view (drop i items)))

  regrouped : (put row : List ℕ) (o : Option (List (List ℕ))) → option_map (λ rows. put ++ joined rows) (option_map (λ rows. row ∷ rows) o) ≡ option_map (λ rows. (put ++ row) ++ joined rows) o
  regrouped put row None = refl
  regrouped put row (Some rows) = ap Some (sym (append_assoc put row (joined rows)))

  pub put_more : (sizes : List ℕ) (items : List Value) (i : ℕ) (before put row : List ℕ) (d : Value) → i < length items → nested_words dtype sizes (view (get_or items i d)) ≡ Some row
      → IsPut sizes items i before put → IsPut sizes items (i + 1) before (put ++ row)
  put_more sizes items i before put row d less is so = so ∙ rw (drop-cons items i d) (rw is (rw add-one (regrouped put row (all_of (nested_words dtype sizes) (map view (drop (suc i) items))))))

  -- a row that was put
  pub put_row : (sizes : List ℕ) (items : List Value) (i : ℕ) (before put new : List ℕ) (item : Value) (good : Bool) → good ≡ true → i < length items
      → (if good then Some new else None) ≡ option_map (λ entries. put ++ entries) (nested_words dtype sizes (view item)) → item ≡ get_or items i item
      → IsPut sizes items i before put → IsPut sizes items (i + 1) before new
  put_row sizes items i before put new item good holds less is at so = told (nested_words dtype sizes (view item)) refl (rw holds at is)
    where
      told : (o : Option (List ℕ)) → nested_words dtype sizes (view item) ≡ o → Some new ≡ option_map (λ entries. put ++ entries) o → IsPut sizes items (i + 1) before new
      told None e f = cc
      told (Some row) e f =
          let same : new ≡ put ++ row = cc in
          subst (IsPut sizes items (i + 1) before) (sym same) (put_more sizes items i before put row item less (ap (λ v. nested_words dtype sizes (view v)) (sym at) ∙ e) so)

  -- a list of another length than the first size wants
  pub put_other : (sizes : List ℕ) (d : Data) (items : List Value) (before : List ℕ) → 1 ≤ length sizes → Some (map view items) ≡ list_items d → length items ≢ get_or sizes 0 0
      → None ≡ option_map (λ entries. before ++ entries) (nested_words dtype sizes d)
  put_other [] d items before one listed other = absurd (omega (arith, one))
  put_other (s ∷ ss) d items before one listed other =
      let same = length-map items view in
      let long : (length (map view items) == s) ≡ false = grind (arith, nat_tests, same) in
      ap (λ b. option_map (λ entries. before ++ entries) (option_map joined (where_so b (all_of (nested_words dtype ss) (map view items))))) (sym long)
      ∙ ap (λ o. option_map (λ entries. before ++ entries) (option_map joined (option_and_then (λ ds. where_so (length ds == s) (all_of (nested_words dtype ss) ds)) o))) listed

  pub put_none : (sizes : List ℕ) (items : List Value) (i : ℕ) (before put : List ℕ) (d : Value) → i < length items → nested_words dtype sizes (view (get_or items i d)) ≡ None
      → IsPut sizes items i before put → None ≡ option_map (λ rows. before ++ joined rows) (all_of (nested_words dtype sizes) (map view items))
  put_none sizes items i before put d less is so = sym (so ∙ rw (drop-cons items i d) (rw is refl))

  pub put_all : (sizes : List ℕ) (items : List Value) (i : ℕ) (before put : List ℕ) → length items ≤ i
      → IsPut sizes items i before put → Some put ≡ option_map (λ rows. before ++ joined rows) (all_of (nested_words dtype sizes) (map view items))
  put_all sizes items i before put past so = sym (so ∙ rw (drop_of_length-le items past) (ap Some (append-nil put)))

  mapped-twice : (before : List ℕ) (o : Option (List (List ℕ))) → option_map (λ rows. before ++ joined rows) o ≡ option_map (λ entries. before ++ entries) (option_map joined o)
  mapped-twice before None = refl
  mapped-twice before (Some rows) = refl

  -- the rows of a list as long as the first size wants
  pub put_whole : (sizes : List ℕ) (d : Data) (items : List Value) (i : ℕ) (before put : List ℕ) → 1 ≤ length sizes → Some (map view items) ≡ list_items d → length items ≡ get_or sizes 0 0
      → length items ≤ i → IsPut (behind sizes) items i before put → Some put ≡ option_map (λ entries. before ++ entries) (nested_words dtype sizes d)
  put_whole [] d items i before put one listed full past so = absurd (omega (arith, one))
  put_whole (s ∷ ss) d items i before put one listed full past so =
      let long : (length (map view items) == s) ≡ true = eqb-true _ _ (length-map items view ∙ full) in
      let rows : Some put ≡ option_map (λ rows. before ++ joined rows) (all_of (nested_words dtype ss) (map view items)) =
      put_all (behind (s ∷ ss)) items i before put past so ∙ ap (λ rest. option_map (λ rows. before ++ joined rows) (all_of (nested_words dtype rest) (map view items))) (behind-cons s ss) in
      rows ∙ mapped-twice before (all_of (nested_words dtype ss) (map view items))
      ∙ ap (λ b. option_map (λ entries. before ++ entries) (option_map joined (where_so b (all_of (nested_words dtype ss) (map view items))))) (sym long)
      ∙ ap (λ o. option_map (λ entries. before ++ entries) (option_map joined (option_and_then (λ ds. where_so (length ds == s) (all_of (nested_words dtype ss) ds)) o))) listed

pushed-first : (before : List ℕ) (n : ℕ) (o : Option (List ℕ)) → option_map (λ sizes. (before ++ n ∷ []) ++ sizes) o ≡ option_map (λ sizes. before ++ sizes) (option_map (λ sizes. n ∷ sizes) o)
pushed-first before n None = refl
pushed-first before n (Some sizes) = ap Some (append_assoc before (n ∷ []) sizes)

abbrev below : ℕ → Option (List Data) → Option (List ℕ)
below k o = sizes_by (sizes_below (λ x. nested_sizes k x)) o

-- the sizes of a list without an item
pub sizes_none : (room : ℕ) (d : Data) (items : List Value) (before out : List ℕ) → room ≢ 0 → length items < 1 → Some (map view items) ≡ list_items d → out ≡ before ++ length items ∷ []
    → Some out ≡ option_map (λ sizes. before ++ sizes) (nested_sizes room d)
sizes_none zero d items before out some less listed pushed = absurd (some refl)
sizes_none (suc k) d [] before out some less listed pushed =
    ap Some pushed ∙ ap (λ o. option_map (λ sizes. before ++ sizes) (below k o)) listed
sizes_none (suc k) d (item ∷ items) before out some less listed pushed = absurd (omega (arith, less))

-- the sizes of a list with an item
pub sizes_more : (room : ℕ) (d : Data) (items : List Value) (before mid : List ℕ) (first : Value) → room ≢ 0 → 1 ≤ length items → Some (map view items) ≡ list_items d → mid ≡ before ++ length items ∷ []
    → first ≡ get_or items 0 first → option_map (λ sizes. mid ++ sizes) (nested_sizes (room - 1) (view first)) ≡ option_map (λ sizes. before ++ sizes) (nested_sizes room d)
sizes_more zero d items before mid first some one listed pushed is = absurd (some refl)
sizes_more (suc k) d [] before mid first some one listed pushed is = absurd (omega (arith, one))
sizes_more (suc k) d (item ∷ items) before mid first some one listed pushed is =
    let less : suc k - 1 ≡ k = omega arith in
    ap (λ n. option_map (λ sizes. mid ++ sizes) (nested_sizes n (view first))) less ∙ ap (λ v. option_map (λ sizes. mid ++ sizes) (nested_sizes k (view v))) is
    ∙ ap (λ m. option_map (λ sizes. m ++ sizes) (nested_sizes k (view item))) pushed ∙ pushed-first before (length (item ∷ items)) (nested_sizes k (view item))
    ∙ ap (λ n. option_map (λ sizes. before ++ sizes) (option_map (λ sizes. n ∷ sizes) (nested_sizes k (view item)))) (sym (length-map (item ∷ items) view))
    ∙ ap (λ o. option_map (λ sizes. before ++ sizes) (below k o)) listed
