-- What a table has under an id after a change.
use Rattle.std.proofs.Common.{◌≡◌, ◌∙◌, Bool, true, false, cond, ℕ, List, [], ◌∷◌, Option, Some, None, refl, sym, ap}
use Rattle.std.specs.Prelude.{IsSome, is_some}
use Rattle.std.specs.Map.{set_value}
use Rattle.std.specs.Str.{bytes_eq}
use Rattle.std.proofs.lemmas.Slice.Eq.{bytes_eq-Decides}
use Rattle.indexmap.specs.IndexMap.{insert_entry}
use Rattle.cells.proofs.Laws.{same_test}
use Rattle.chunk_versions.specs.Versions.{Versions}
use Rattle.version_store.specs.Ids.{Id, found}

-- two keys have the same items
abbrev pub same_id : Id → Id → Bool
same_id a b = bytes_eq a.items b.items

turned : (xs ys : List ℕ) → bytes_eq xs ys ≡ bytes_eq ys xs
turned xs ys =
    same_test (bytes_eq xs ys) (bytes_eq ys xs) (λ same. (bytes_eq-Decides ys xs).1 (sym ((bytes_eq-Decides xs ys).0 same)))
    (λ same. (bytes_eq-Decides xs ys).1 (sym ((bytes_eq-Decides ys xs).0 same)))

-- the same test twice
once : (b c : Bool) (v w : Versions) (o : Option Versions) → b ≡ c → cond b (Some v) o ≡ cond c (Some v) (cond b (Some w) o)
once true true v w o same = refl
once false false v w o same = refl
once true false v w o same = absurd (let no_such : ⊥ = cc in no_such)
once false true v w o same = absurd (let no_such : ⊥ = cc in no_such)

-- two tests that don't both hold
apart : (b c : Bool) (v w : Versions) (o : Option Versions) → (b ≡ true → c ≡ true → ⊥) → cond b (Some w) (cond c (Some v) o) ≡ cond c (Some v) (cond b (Some w) o)
apart true true v w o both = absurd (both refl refl)
apart true false v w o both = refl
apart false true v w o both = refl
apart false false v w o both = refl

-- an id that isn't that of an entry can't be both that of the entry and this one
two_ids : (ys zs xs : List ℕ) → bytes_eq ys zs ≡ false → bytes_eq xs zs ≡ true → bytes_eq ys xs ≡ true → ⊥
two_ids ys zs xs other one same =
    let clash : false ≡ true = sym other ∙ (bytes_eq-Decides ys zs).1 ((bytes_eq-Decides ys xs).0 same ∙ (bytes_eq-Decides xs zs).0 one) in
    cc

module _ (key : Id) (v : Versions) (xs : List ℕ) where
  inserted_by : (b : Bool) (e : Id × Versions) (es more : List (Id × Versions)) → same_id key e.0 ≡ b → found more xs ≡ cond (bytes_eq key.items xs) (Some v) (found es xs)
      → found (cond b ((e.0, v) ∷ es) (e ∷ more)) xs ≡ cond (bytes_eq key.items xs) (Some v) (found (e ∷ es) xs)
  inserted_by true e es more is rest =
      let same : key.items ≡ e.0.items = (bytes_eq-Decides key.items e.0.items).0 is in
      once (bytes_eq xs e.0.items) (bytes_eq key.items xs) v e.1 (found es xs) (turned xs e.0.items ∙ ap (λ ys. bytes_eq ys xs) (sym same))
  inserted_by false e es more is rest =
      ap (cond (bytes_eq xs e.0.items) (Some e.1)) rest
      ∙ apart (bytes_eq xs e.0.items) (bytes_eq key.items xs) v e.1 (found es xs) (λ one same. two_ids key.items e.0.items xs is one same)

  -- an entry that is put in
  pub found-insert : (es : List (Id × Versions)) → found (insert_entry same_id es key v) xs ≡ cond (bytes_eq key.items xs) (Some v) (found es xs)
  found-insert [] = ap (λ b. cond b (Some v) None) (turned xs key.items)
  found-insert (e ∷ es) = inserted_by (same_id key e.0) e es (insert_entry same_id es key v) refl (found-insert es)

module _ (ys : List ℕ) (w : Versions) (xs : List ℕ) where
  set_by : (b : Bool) (e : Id × Versions) (es : List (Id × Versions)) → bytes_eq ys e.0.items ≡ b → IsSome (cond b (Some e.1) (found es ys))
      → (IsSome (found es ys) → found (set_value (λ (k : Id). bytes_eq ys k.items) es w) xs ≡ cond (bytes_eq ys xs) (Some w) (found es xs))
      → found (cond b ((e.0, w) ∷ es) (e ∷ set_value (λ (k : Id). bytes_eq ys k.items) es w)) xs ≡ cond (bytes_eq ys xs) (Some w) (found (e ∷ es) xs)
  set_by true e es is some rest =
      let same : ys ≡ e.0.items = (bytes_eq-Decides ys e.0.items).0 is in
      once (bytes_eq xs e.0.items) (bytes_eq ys xs) w e.1 (found es xs) (turned xs e.0.items ∙ ap (λ zs. bytes_eq zs xs) (sym same))
  set_by false e es is some rest =
      ap (cond (bytes_eq xs e.0.items) (Some e.1)) (rest some)
      ∙ apart (bytes_eq xs e.0.items) (bytes_eq ys xs) w e.1 (found es xs) (λ one same. two_ids ys e.0.items xs is one same)

  -- a value that is changed in place
  pub found-set : (es : List (Id × Versions)) → IsSome (found es ys) → found (set_value (λ (k : Id). bytes_eq ys k.items) es w) xs ≡ cond (bytes_eq ys xs) (Some w) (found es xs)
  found-set [] some = absurd (let no_such : ⊥ = cc in no_such)
  found-set (e ∷ es) some = set_by (bytes_eq ys e.0.items) e es refl some (found-set es)

-- what isn't something is nothing
pub none_of : (o : Option Versions) → is_some o ≡ false → o ≡ None
none_of None is = refl
none_of (Some v) is = absurd (let no_such : ⊥ = cc in no_such)

-- nothing isn't something
pub not_none : {A : Type 0} (o : Option Versions) → IsSome o → o ≡ None → A
not_none None some is = absurd (let no_such : ⊥ = cc in no_such)
not_none (Some v) some is = absurd (let no_such : ⊥ = cc in no_such)
