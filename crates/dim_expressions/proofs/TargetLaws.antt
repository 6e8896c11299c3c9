-- Target positions, one after another.
use Rattle.std.proofs.Common.{◌≡◌, ◌∙◌, zero, suc, ℕ, ◌+◌, ◌<◌, List, [], ◌∷◌, ◌++◌, length, drop, get_or, refl, sym, ap, arith, Option, Some, None, option_map, option_and_then}
use Rattle.std.proofs.Math.Seq.{drop-cons}
use Rattle.json_forms.specs.Lists.{all_of}
use Rattle.step_forms.proofs.Laws.{Gathered, gathered_more}

module _ {A B : Type 0} (f : A → Option B) where
  all_of-drop : (xs : List A) (k : ℕ) (x : A) (y : B) → k < length xs → x ≡ get_or xs k x → f x ≡ Some y
      → all_of f (drop k xs) ≡ option_map (λ ys. (y ∷ []) ++ ys) (all_of f (drop (k + 1) xs))
  all_of-drop xs k x y h e q =
      let one : k + 1 ≡ suc k = omega arith in
      let at : drop k xs ≡ x ∷ drop (suc k) xs = drop-cons xs k x h ∙ ap (λ z. z ∷ drop (suc k) xs) (sym e) in
      rw (at, one, q) refl

  -- one more is found
  pub gathered-item : (xs : List A) (k : ℕ) (x : A) (y : B) (done : List B) (whole : Option (List B)) → k < length xs → x ≡ get_or xs k x → f x ≡ Some y
      → Gathered done (all_of f (drop k xs)) whole → Gathered (done ++ y ∷ []) (all_of f (drop (k + 1) xs)) whole
  gathered-item xs k x y done whole h e q before =
      gathered_more done (y ∷ []) (all_of f (drop (k + 1) xs)) whole (ap (λ (o : Option (List B)). option_map (λ ys. done ++ ys) o) (sym (all_of-drop xs k x y h e q)) ∙ before)

  longer : (n : ℕ) (y : B) (o : Option (List B)) (ys : List B) → ((zs : List B) → o ≡ Some zs → length zs ≡ n) → option_map (λ zs. y ∷ zs) o ≡ Some ys → length ys ≡ suc n
  longer n y None ys h e = cc
  longer n y (Some zs) ys h e =
      let l = h zs refl in
      let same : y ∷ zs ≡ ys = cc in
      rw (← same) (omega (arith, l))

  -- as many are found as there are
  pub length-all_of : (xs : List A) (ys : List B) → all_of f xs ≡ Some ys → length ys ≡ length xs
  length-all_of [] ys e = let same : [] ≡ ys = cc in rw (← same) refl
  length-all_of (x ∷ xs) ys e = told (f x) refl e (λ zs q. length-all_of xs zs q)
    where
      told : (o : Option B) → f x ≡ o → option_and_then (λ y. option_map (λ zs. y ∷ zs) (all_of f xs)) o ≡ Some ys
          → ((zs : List B) → all_of f xs ≡ Some zs → length zs ≡ length xs) → length ys ≡ suc (length xs)
      told None q e h = cc
      told (Some y) q e h = longer (length xs) y (all_of f xs) ys h e

-- numbers below a rank, and one more
pub below-more : (rank : ℕ) (xs : List ℕ) (y : ℕ) → ((k d : ℕ) → k < length xs → get_or xs k d < rank) → y < rank
    → (k d : ℕ) → k < length (xs ++ y ∷ []) → get_or (xs ++ y ∷ []) k d < rank
below-more rank [] y h l zero d k = l
below-more rank [] y h l (suc i) d k = absurd (omega (arith, k))
below-more rank (x ∷ xs) y h l zero d k = h 0 d (omega arith)
below-more rank (x ∷ xs) y h l (suc i) d k = below-more rank xs y (λ j e b. h (suc j) e (omega (arith, b))) l i d (omega (arith, k))
