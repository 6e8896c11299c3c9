-- The items of a list that have a mark, where they stand one after another.
use Rattle.std.proofs.Common.{◌≡◌, ◌∙◌, ◌<◌, ◌≤◌, ◌+◌, ℕ, zero, suc, List, [], ◌∷◌, Bool, true, false, cond, Some, take, drop, refl, sym, ap, arith}
use Rattle.std.specs.Prelude.{filter}
use Rattle.std.specs.List.{slice_get}

module _ {A : Type 0} (p : A → Bool) where
  -- none of a list is marked
  abbrev pub IsUnmarked : List A → Type 0
  IsUnmarked xs = (k : ℕ) (x : A) → slice_get xs k ≡ Some x → p x ≡ false

  pub none_marked : (xs : List A) → IsUnmarked xs → filter p xs ≡ []
  none_marked [] none = refl
  none_marked (x ∷ xs) none = ap (λ b. cond b (x ∷ filter p xs) (filter p xs)) (none zero x refl) ∙ none_marked xs (λ k y is. none (suc k) y is)

  -- of a list those from one place on, so many, are marked, and no others
  pub record AreMarked (begin many : ℕ) (xs : List A) : Type 0 where
    pub before : (k : ℕ) (x : A) → k < begin → slice_get xs k ≡ Some x → p x ≡ false
    pub own : (k : ℕ) (x : A) → begin ≤ k → k < begin + many → slice_get xs k ≡ Some x → p x ≡ true
    pub behind : (k : ℕ) (x : A) → begin + many ≤ k → slice_get xs k ≡ Some x → p x ≡ false

  abbrev nothing : List A
  nothing = []

  no_items : (n : ℕ) → take n nothing ≡ nothing
  no_items zero = refl
  no_items (suc n) = refl

  tail_own : (many : ℕ) (x : A) (xs : List A) → AreMarked 0 (suc many) (x ∷ xs) → AreMarked 0 many xs
  tail_own many x xs are = record {
    before = λ k y low is. absurd (omega (arith, low));
    own = λ k y from low is. are.own (suc k) y (omega arith) (omega (arith, low)) is;
    behind = λ k y from is. are.behind (suc k) y (omega (arith, from)) is;
  }

  tail_before : (begin many : ℕ) (x : A) (xs : List A) → AreMarked (suc begin) many (x ∷ xs) → AreMarked begin many xs
  tail_before begin many x xs are = record {
    before = λ k y low is. are.before (suc k) y (omega (arith, low)) is;
    own = λ k y from low is. are.own (suc k) y (omega (arith, from)) (omega (arith, low)) is;
    behind = λ k y from is. are.behind (suc k) y (omega (arith, from)) is;
  }

  -- the first so many of them, up to a place
  pub marked_upto : (begin many at place : ℕ) (xs : List A) → place ≡ begin + at → AreMarked begin many xs → at ≤ many → filter p (take place xs) ≡ take at (drop begin xs)
  marked_upto zero many zero zero xs is are low = refl
  marked_upto zero many zero (suc place) xs is are low = absurd (omega (arith, is))
  marked_upto zero many (suc at) zero xs is are low = absurd (omega (arith, is))
  marked_upto zero zero (suc at) (suc place) xs is are low = absurd (omega (arith, low))
  marked_upto zero (suc many) (suc at) (suc place) [] is are low = refl
  marked_upto zero (suc many) (suc at) (suc place) (x ∷ xs) is are low =
      ap (λ b. cond b (x ∷ filter p (take place xs)) (filter p (take place xs))) (are.own zero x (omega arith) (omega arith) refl)
      ∙ ap (λ ys. x ∷ ys) (marked_upto zero many at place xs (omega (arith, is)) (tail_own many x xs are) (omega (arith, low)))
  marked_upto (suc begin) many at zero xs is are low = absurd (omega (arith, is))
  marked_upto (suc begin) many at (suc place) [] is are low = sym (no_items at)
  marked_upto (suc begin) many at (suc place) (x ∷ xs) is are low =
      ap (λ b. cond b (x ∷ filter p (take place xs)) (filter p (take place xs))) (are.before zero x (omega arith) refl)
      ∙ marked_upto begin many at place xs (omega (arith, is)) (tail_before begin many x xs are) low

  -- and all of them
  pub all_marked : (begin many : ℕ) (xs : List A) → AreMarked begin many xs → filter p xs ≡ take many (drop begin xs)
  all_marked zero zero xs are = none_marked xs (λ k x is. are.behind k x (omega arith) is)
  all_marked zero (suc many) [] are = refl
  all_marked zero (suc many) (x ∷ xs) are =
      ap (λ b. cond b (x ∷ filter p xs) (filter p xs)) (are.own zero x (omega arith) (omega arith) refl)
      ∙ ap (λ ys. x ∷ ys) (all_marked zero many xs (tail_own many x xs are))
  all_marked (suc begin) many [] are = sym (no_items many)
  all_marked (suc begin) many (x ∷ xs) are =
      ap (λ b. cond b (x ∷ filter p xs) (filter p xs)) (are.before zero x (omega arith) refl)
      ∙ all_marked begin many xs (tail_before begin many x xs are)
