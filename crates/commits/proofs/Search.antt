-- Of the numbers below a bound, one that passes a test, or none does.
use Rattle.std.proofs.Common.{◌≡◌, ℕ, suc, zero, ◌<◌, ◌⊎◌, inl, inr, Bool, true, false, ap, ◌∙◌, arith}
use Rattle.cells.proofs.Laws.{true_or_false, equal_or_not}

pub record HasPlace (test : ℕ → Bool) (n : ℕ) : Type 0 where
  pub place : ℕ
  pub below : place < n
  pub passes : test place ≡ true

pub find_place : (test : ℕ → Bool) (n : ℕ) → ((p : ℕ) → p < n → test p ≡ false) ⊎ HasPlace test n
find_place test zero = inl (λ p low. absurd (omega (arith, low)))
find_place test (suc n) = by (find_place test n) (true_or_false (test n))
  where
    last : ((p : ℕ) → p < n → test p ≡ false) → test n ≡ false → (p : ℕ) → p < suc n → test p ≡ false
    last none here p low = elim (equal_or_not p n) [
      | inl same ↦ ap test same ∙ here
      | inr other ↦ none p (omega (arith, low, other))
    ]

    by : ((p : ℕ) → p < n → test p ≡ false) ⊎ HasPlace test n → (test n ≡ true) ⊎ (test n ≡ false) → ((p : ℕ) → p < suc n → test p ≡ false) ⊎ HasPlace test (suc n)
    by (inr there) here = let low = there.below in inr (record { place = there.place; below = omega (arith, low); passes = there.passes })
    by (inl none) (inl here) = inr (record { place = n; below = omega arith; passes = here })
    by (inl none) (inr here) = inl (last none here)
