-- Whether a key is that of a local array's chunk.
use Rattle.std.proofs.Common.{◌≡◌, ℕ, zero, suc, ◌+◌, ◌<◌, List, [], ◌∷◌, ◌++◌, length, Bool, true, false, Option, Some, None, inl, inr, refl, sym, ap, subst, ◌∙◌, arith, get_or}
use Rattle.std.specs.Prelude.{◌&&◌, ◌||◌, count_by}
use Rattle.std.specs.List.{list_any, range_with_len}
use Rattle.std.specs.Str.{bytes_eq}
use Rattle.std.proofs.lemmas.List.FromFn.{get_or-range_with_len, length-range_with_len}
use Rattle.std.proofs.lemmas.Slice.Eq.{bytes_eq-Decides}
use Rattle.cells.proofs.Laws.{equal_or_not, true_or_false}
use Rattle.kv_face.specs.Store.{Contents}
use Rattle.chunk_forms.specs.Names.{chunk_name}
use Rattle.history.specs.declared.array.Home.{Home}
use Rattle.history.specs.declared.array.Home.TheVariants.{Zarr, N5, Zarr3, Local}
use Rattle.history.specs.History.{History}
use Rattle.history.specs.Arrays.{Known, known_after, form_of, is_local}
use Rattle.history.specs.Chunks.{chunk_key, keys_text}
use Rattle.history.specs.Counting.{is_key_of_local, is_local_key}
use Rattle.history.specs.Legal.{IsLegal, is_opening}
use Rattle.history.proofs.Laws.{apart_texts, known_apart, known_below, some_inj}

none_passes : (f : ℕ → Bool) → ((a : ℕ) → f a ≡ false) → (xs : List ℕ) → list_any f xs ≡ false
none_passes f none [] = refl
none_passes f none (x ∷ xs) = ap (λ b. b || list_any f xs) (none x) ∙ none_passes f none xs

one_passes : (f : ℕ → Bool) (a : ℕ) (xs : List ℕ) (i d : ℕ) → i < length xs → get_or xs i d ≡ a → f a ≡ true → list_any f xs ≡ true
one_passes f a [] i d low is passes = absurd (omega (arith, low))
one_passes f a (x ∷ xs) zero d low is passes = ap (λ b. b || list_any f xs) (ap f is ∙ passes)
one_passes f a (x ∷ xs) (suc i) d low is passes = second (f x) (list_any f xs) (one_passes f a xs i d (omega (arith, low)) is passes)
  where
    second : (b c : Bool) → c ≡ true → (b || c) ≡ true
    second true c h = refl
    second false c h = h

-- the key of a local array's chunk tells no index
local_name : (home : Home) (index : List ℕ) → is_local home ≡ true → chunk_name (form_of home) [] ≡ chunk_name (form_of home) index
local_name (Zarr mount path meta) index local = absurd (cc)
local_name (N5 mount path meta) index local = absurd (cc)
local_name (Zarr3 mount path meta) index local = absurd (cc)
local_name (Local start) index local = refl

module _ (start : Contents) (events : History) (legal : IsLegal start events) (a : ℕ) (k : Known) (index : List ℕ) (known : known_after events a ≡ Some k) where
  abbrev key : List ℕ
  key = chunk_key k index

  -- no local array has the key of a stored one's chunk
  other : is_local k.info.home ≡ false → (b : ℕ) → (o : Option Known) → known_after events b ≡ o → is_key_of_local key o ≡ false
  other stored b None is = refl
  other stored b (Some l) is = elim (equal_or_not a b) [
    | inl same ↦
        let array : l ≡ k = some_inj l k (sym is ∙ ap (known_after events) (sym same) ∙ known) in
        ap (λ (m : Known). is_local m.info.home && bytes_eq (chunk_key l []) key) array ∙ ap (λ c. c && bytes_eq (chunk_key l []) key) stored
    | inr apart ↦ elim (true_or_false (bytes_eq (chunk_key l []) key)) [
      | inl equal ↦ absurd (apart_texts (keys_text k) (keys_text l) (chunk_name (form_of k.info.home) index) (chunk_name (form_of l.info.home) []) (known_apart start events legal a b k l known is apart) (sym ((bytes_eq-Decides (chunk_key l []) key).0 equal)))
      | inr unequal ↦ ap (λ c. is_local l.info.home && c) unequal ∙ and_false (is_local l.info.home)
    ]
  ]
    where
      and_false : (b : Bool) → (b && false) ≡ false
      and_false true = refl
      and_false false = refl

  pub stored_key : is_local k.info.home ≡ false → is_local_key events key ≡ false
  stored_key stored = none_passes (λ b. is_key_of_local key (known_after events b)) (λ b. other stored b (known_after events b) refl) (range_with_len 0 (count_by is_opening events))

  zero_more : (n : ℕ) → 0 + n ≡ n
  zero_more n = omega arith

  pub local_key : is_local k.info.home ≡ true → is_local_key events key ≡ true
  local_key local =
      one_passes (λ b. is_key_of_local key (known_after events b)) a (range_with_len 0 (count_by is_opening events)) a 0
      (subst (λ n. a < n) (sym (length-range_with_len 0 (count_by is_opening events))) (known_below start a events legal k known)) (get_or-range_with_len 0 (count_by is_opening events) a 0 (known_below start a events legal k known) ∙ zero_more a)
      (ap (is_key_of_local key) known ∙ ap (λ c. c && bytes_eq (chunk_key k []) key) local ∙ (bytes_eq-Decides (chunk_key k []) key).1 (ap (λ n. keys_text k ++ n) (local_name k.info.home index local)))
