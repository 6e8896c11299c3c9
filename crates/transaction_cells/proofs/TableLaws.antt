-- What a table has under an id after a change.
use Rattle.std.proofs.Common.{◌≡◌, ◌∙◌, ℕ, Bool, true, false, cond, List, [], ◌∷◌, Option, Some, None, refl, sym, ap}
use Rattle.std.specs.Prelude.{IsSome}
use Rattle.std.specs.Str.{bytes_eq}
use Rattle.std.specs.Map.{set_value}
use Rattle.std.specs.BTreeMap.{insert_entry}
use Rattle.std.specs.declared.cmp.Ordering.{Ordering}
use Rattle.std.specs.declared.cmp.Ordering.TheVariants.{Less, Equal, Greater}
use Rattle.std.specs.Ordering.{is_eq, nat_cmp, match_ordering}
use Rattle.std.specs.Cmp.Lexicographic.{slice_cmp}
use Rattle.std.proofs.lemmas.Slice.Eq.{bytes_eq-Decides}
use Rattle.std.proofs.lemmas.Map.Text.{is_eq-slice_cmp}
use Rattle.transaction_cells.specs.Found.{Id, by_id, found}

-- an entry's id is the one that is looked for
abbrev is_there : List ℕ → Id → Bool
is_there xs k = is_eq (slice_cmp nat_cmp xs k.items)

same_of : (xs ys : List ℕ) → is_eq (slice_cmp nat_cmp xs ys) ≡ true → xs ≡ ys
same_of xs ys e = (bytes_eq-Decides xs ys).0 (sym (is_eq-slice_cmp xs ys) ∙ e)

turned : (xs ys : List ℕ) → bytes_eq xs ys ≡ bytes_eq ys xs
turned xs ys = by (bytes_eq xs ys) (bytes_eq ys xs) refl refl
  where
    by : (a b : Bool) → bytes_eq xs ys ≡ a → bytes_eq ys xs ≡ b → a ≡ b
    by true true h g = refl
    by false false h g = refl
    by true false h g = let e = (bytes_eq-Decides xs ys).0 h in sym ((bytes_eq-Decides ys xs).1 (sym e)) ∙ g
    by false true h g = let e = (bytes_eq-Decides ys xs).0 g in sym h ∙ (bytes_eq-Decides xs ys).1 (sym e)

there_is : (xs : List ℕ) (k : Id) → is_there xs k ≡ bytes_eq k.items xs
there_is xs k = is_eq-slice_cmp xs k.items ∙ turned xs k.items

-- the same test twice
once : {V : Type 0} (b c : Bool) (v w : V) (o : Option V) → b ≡ c → cond b (Some v) o ≡ cond c (Some v) (cond b (Some w) o)
once true true v w o e = refl
once false false v w o e = refl
once true false v w o e = absurd (let no_such : ⊥ = cc in no_such)
once false true v w o e = absurd (let no_such : ⊥ = cc in no_such)

-- two tests that don't both hold
apart : {V : Type 0} (b c : Bool) (v w : V) (o : Option V) → (b ≡ true → c ≡ true → ⊥) → cond b (Some w) (cond c (Some v) o) ≡ cond c (Some v) (cond b (Some w) o)
apart true true v w o e = absurd (e refl refl)
apart true false v w o e = refl
apart false true v w o e = refl
apart false false v w o e = refl

module _ {V : Type 0} (key : Id) (v : V) (xs : List ℕ) where
  inserted_by : (o : Ordering) (e : Id × V) (es more : List (Id × V)) → by_id key e.0 ≡ o → found more xs ≡ cond (bytes_eq key.items xs) (Some v) (found es xs)
      → found (match_ordering o ((key, v) ∷ e ∷ es) ((e.0, v) ∷ es) (e ∷ more)) xs ≡ cond (bytes_eq key.items xs) (Some v) (found (e ∷ es) xs)
  inserted_by Less e es more is rest = ap (λ b. cond b (Some v) (found (e ∷ es) xs)) (there_is xs key)
  inserted_by Equal e es more is rest =
      let same : key.items ≡ e.0.items = same_of key.items e.0.items (ap is_eq is) in
      once (is_there xs e.0) (bytes_eq key.items xs) v e.1 (found es xs) (there_is xs e.0 ∙ ap (λ ys. bytes_eq ys xs) (sym same))
  inserted_by Greater e es more is rest =
      ap (cond (is_there xs e.0) (Some e.1)) rest
      ∙ apart (is_there xs e.0) (bytes_eq key.items xs) v e.1 (found es xs) (λ one other.
      let here : key.items ≡ e.0.items = (bytes_eq-Decides key.items xs).0 other ∙ same_of xs e.0.items one in
      let equal : is_eq (by_id key e.0) ≡ true = is_eq-slice_cmp key.items e.0.items ∙ (bytes_eq-Decides key.items e.0.items).1 here in
      let clash : false ≡ true = sym (ap is_eq is) ∙ equal in cc)

  -- an entry that is put in
  pub found-insert : (es : List (Id × V)) → found (insert_entry by_id es key v) xs ≡ cond (bytes_eq key.items xs) (Some v) (found es xs)
  found-insert [] = ap (λ b. cond b (Some v) None) (there_is xs key)
  found-insert (e ∷ es) = inserted_by (by_id key e.0) e es (insert_entry by_id es key v) refl (found-insert es)

module _ {V : Type 0} (ys : List ℕ) (w : V) (xs : List ℕ) where
  set_by : (b : Bool) (e : Id × V) (es : List (Id × V)) → is_there ys e.0 ≡ b → IsSome (cond b (Some e.1) (found es ys))
      → (IsSome (found es ys) → found (set_value (is_there ys) es w) xs ≡ cond (bytes_eq ys xs) (Some w) (found es xs))
      → found (cond b ((e.0, w) ∷ es) (e ∷ set_value (is_there ys) es w)) xs ≡ cond (bytes_eq ys xs) (Some w) (found (e ∷ es) xs)
  set_by true e es is some rest =
      let same : ys ≡ e.0.items = same_of ys e.0.items is in
      once (is_there xs e.0) (bytes_eq ys xs) w e.1 (found es xs) (there_is xs e.0 ∙ ap (λ zs. bytes_eq zs xs) (sym same))
  set_by false e es is some rest =
      ap (cond (is_there xs e.0) (Some e.1)) (rest some)
      ∙ apart (is_there xs e.0) (bytes_eq ys xs) w e.1 (found es xs) (λ one other.
      let here : ys ≡ e.0.items = (bytes_eq-Decides ys xs).0 other ∙ same_of xs e.0.items one in
      let equal : is_there ys e.0 ≡ true = is_eq-slice_cmp ys e.0.items ∙ (bytes_eq-Decides ys e.0.items).1 here in
      let clash : false ≡ true = sym is ∙ equal in cc)

  -- a value that is changed in place
  pub found-set : (es : List (Id × V)) → IsSome (found es ys) → found (set_value (is_there ys) es w) xs ≡ cond (bytes_eq ys xs) (Some w) (found es xs)
  found-set [] some = absurd (let no_such : ⊥ = cc in no_such)
  found-set (e ∷ es) some = set_by (is_there ys e.0) e es refl some (found-set es)
