-- How many dimensions aren't selected.
use Rattle.std.proofs.Common.{◌≡◌, ◌≢◌, ◌∙◌, zero, suc, ℕ, ◌+◌, ◌<◌, ◌≤◌, ◌==◌, ◌||◌, not, Bool, true, false, cond, List, [], ◌∷◌, length, filter, get_or, refl, sym, ap, arith, Some, is_none}
use Rattle.std.proofs.lemmas.Bool.Decides.{nat_tests}
use Rattle.std.specs.List.{list_any, position_from, range_with_len}
use Rattle.dim_changes.specs.Dims.{spot_in, others}
use Rattle.step_forms.specs.Selection.{has_repeat}

module _ (p q : ℕ → Bool) where
  -- tests that agree on what comes let as many pass
  as-many : (a n : ℕ) → ((d : ℕ) → a ≤ d → p d ≡ q d) → length (filter p (range_with_len a n)) ≡ length (filter q (range_with_len a n))
  as-many a zero h = refl
  as-many a (suc n) h =
      let r = as-many (a + 1) n (λ d l. h d (omega (arith, l))) in
      rw (h a (omega arith)) (told (q a) r)
    where
      told : (b : Bool) → length (filter p (range_with_len (a + 1) n)) ≡ length (filter q (range_with_len (a + 1) n))
          → length (cond b (a ∷ filter p (range_with_len (a + 1) n)) (filter p (range_with_len (a + 1) n))) ≡ length (cond b (a ∷ filter q (range_with_len (a + 1) n)) (filter q (range_with_len (a + 1) n)))
      told true r = omega (arith, r)
      told false r = r

  -- tests that agree but at one number, which passes the first alone
  one-more : (a n x : ℕ) → a ≤ x → x < a + n → p x ≡ true → q x ≡ false → ((d : ℕ) → d ≢ x → p d ≡ q d)
      → length (filter p (range_with_len a n)) ≡ length (filter q (range_with_len a n)) + 1
  one-more a zero x l h e f same = absurd (omega (arith, l, h))
  one-more a (suc n) x l h e f same = told (a == x) refl (λ less. one-more (a + 1) n x (omega (arith, l, less)) (omega (arith, h)) e f same)
    where
      both : (b : Bool) → length (filter p (range_with_len (a + 1) n)) ≡ length (filter q (range_with_len (a + 1) n)) + 1
          → length (cond b (a ∷ filter p (range_with_len (a + 1) n)) (filter p (range_with_len (a + 1) n))) ≡ length (cond b (a ∷ filter q (range_with_len (a + 1) n)) (filter q (range_with_len (a + 1) n))) + 1
      both true r = omega (arith, r)
      both false r = r

      told : (b : Bool) → (a == x) ≡ b → (a ≢ x → length (filter p (range_with_len (a + 1) n)) ≡ length (filter q (range_with_len (a + 1) n)) + 1)
          → length (filter p (range_with_len a (suc n))) ≡ length (filter q (range_with_len a (suc n))) + 1
      told true g r =
          let z : a ≡ x = grind (arith, nat_tests) in
          let pa : p a ≡ true = ap p z ∙ e in
          let qa : q a ≡ false = ap q z ∙ f in
          let rest = as-many (a + 1) n (λ d k. same d (λ w. omega (arith, k, w, z))) in
          rw (pa, qa) (omega (arith, rest))
      told false g r =
          let apart : a ≢ x = grind (arith, nat_tests) in
          rw (same a apart) (both (q a) (r apart))

-- whether a dimension stays
abbrev pub stays : List ℕ → ℕ → Bool
stays selected dim = is_none (spot_in selected dim)

stays-from : (i : ℕ) (xs : List ℕ) (x : ℕ) → is_none (position_from (λ d. d == x) i xs) ≡ not (list_any (λ d. d == x) xs)
stays-from i [] x = refl
stays-from i (y ∷ xs) x = told (y == x) (stays-from (i + 1) xs x)
  where
    told : (b : Bool) → is_none (position_from (λ d. d == x) (i + 1) xs) ≡ not (list_any (λ d. d == x) xs)
        → is_none (cond b (Some i) (position_from (λ d. d == x) (i + 1) xs)) ≡ not (b || list_any (λ d. d == x) xs)
    told true r = refl
    told false r = r

all-stay : (a n : ℕ) → length (filter (stays []) (range_with_len a n)) ≡ n
all-stay a zero = refl
all-stay a (suc n) = let r = all-stay (a + 1) n in omega (arith, r)

-- where none is selected twice, all that aren't selected are as many as there are left
pub others-count : (selected : List ℕ) (rank : ℕ) → has_repeat selected ≡ false → ((k d : ℕ) → k < length selected → get_or selected k d < rank)
    → length (others selected rank) + length selected ≡ rank
others-count [] rank e h = let r = all-stay 0 rank in omega (arith, r)
others-count (s ∷ selected) rank e h = told (list_any (λ d. d == s) selected) refl e (λ f. others-count selected rank f (λ k d l. h (suc k) d (omega (arith, l))))
  where
    told : (b : Bool) → list_any (λ d. d == s) selected ≡ b → (b || has_repeat selected) ≡ false
        → (has_repeat selected ≡ false → length (others selected rank) + length selected ≡ rank) → length (others (s ∷ selected) rank) + length (s ∷ selected) ≡ rank
    told true f g r = cc
    told false f g r =
        let here : stays selected s ≡ true = stays-from 0 selected s ∙ ap not f in
        let gone : stays (s ∷ selected) s ≡ false = stays-from 0 (s ∷ selected) s ∙ (let z : (s == s) ≡ true = grind (arith, nat_tests) in rw z refl) in
        let more = one-more (stays selected) (stays (s ∷ selected)) 0 rank s (omega arith) (let l = h 0 0 (omega arith) in omega (arith, l)) here gone
        (λ d n. stays-from 0 selected d ∙ sym (stays-from 0 (s ∷ selected) d ∙ (let z : (s == d) ≡ false = grind (arith, nat_tests) in rw z refl))) in
        let rest = r g in
        omega (arith, more, rest)
