-- What stands in the order of its keys rises where no key comes twice.
use Rattle.std.proofs.Common.{◌≡◌, ℕ, ◌<◌, suc, ◌⊎◌, inl, inr, List, [], ◌∷◌, length, map, Bool, true, false, sym, ap, subst, ◌∙◌, ◌+◌, get_or, arith}
use Rattle.std.specs.Cmp.Lexicographic.{slice_cmp}
use Rattle.std.specs.List.{AllByRecursion, IsDistinct}
use Rattle.std.specs.List.Sorted.{IsSortedBy, IsSortedByKey}
use Rattle.std.specs.Ordering.{is_lt, nat_cmp}
use Rattle.std.specs.Str.{bytes_eq}
use Rattle.std.proofs.lemmas.Cmp.{nat_list_cmp_total}
use Rattle.std.proofs.lemmas.List.Sorted.{ranks_by, sorted_far}
use Rattle.std.proofs.lemmas.Slice.Eq.{bytes_eq-Decides}
use Rattle.cells.proofs.Laws.{true_or_false}
use Rattle.history.specs.Commit.{Key, is_before}
use Rattle.chunk_plans.specs.Rising.{AreRising}
use Rattle.chunk_plans.proofs.KeyOrder.{same_text}

module _ {X : Type 0} (key : X → Key) where
  abbrev stands_before : X → X → Bool
  stands_before x y = is_lt (slice_cmp nat_cmp (key x) (key y))

  -- none of those behind stands before the first
  each_from : (P : X → Type 0) (xs : List X) → ((j : ℕ) (d : X) → j < length xs → P (get_or xs j d)) → AllByRecursion P xs
  each_from P [] h = tt
  each_from P (x ∷ xs) h = (h 0 x (omega arith), each_from P xs (λ j d low. h (suc j) d (omega (arith, low))))

  first_below : (x : X) (xs : List X) → IsSortedBy stands_before (x ∷ xs) → AllByRecursion (λ y. stands_before y x ≡ false) xs
  first_below x xs up = each_from (λ y. stands_before y x ≡ false) xs (λ j d low. sorted_far stands_before (ranks_by nat_list_cmp_total key) (x ∷ xs) up 0 (suc j) d (omega arith) (omega (arith, low)))

  rest_sorted : (x : X) (xs : List X) → IsSortedBy stands_before (x ∷ xs) → IsSortedBy stands_before xs
  rest_sorted x xs up = λ k d zero low.
      let next : suc k + 1 ≡ suc (k + 1) = omega arith in
      subst (λ n. stands_before (get_or (x ∷ xs) n d) (get_or xs k d) ≡ false) next (up (suc k) d (omega arith) (omega (arith, low)))

  stand_behind : (x : X) (xs : List X) → AllByRecursion (λ y. stands_before y x ≡ false) xs → AllByRecursion (λ l. bytes_eq (key x) l ≡ false) (map key xs) → AllByRecursion (λ l. is_before (key x) l ≡ true) (map key xs)
  stand_behind x [] below apart = tt
  stand_behind x (y ∷ ys) below apart = (by (true_or_false (is_before (key x) (key y))), stand_behind x ys below.1 apart.1)
    where
      by : (is_before (key x) (key y) ≡ true) ⊎ (is_before (key x) (key y) ≡ false) → is_before (key x) (key y) ≡ true
      by (inl is) = is
      by (inr isnt) = let clash : true ≡ false = sym ((bytes_eq-Decides (key x) (key y)).1 (same_text (key x) (key y) isnt below.0)) ∙ apart.0 in absurd (cc)

  -- distinct keys in order rise
  pub rising_sorted : (xs : List X) → IsSortedByKey key (slice_cmp nat_cmp) xs → IsDistinct bytes_eq (map key xs) → AreRising (map key xs)
  unfolding IsDistinct
  rising_sorted [] up distinct = tt
  rising_sorted (x ∷ xs) up distinct = (stand_behind x xs (first_below x xs up) distinct.0, rising_sorted xs (rest_sorted x xs up) distinct.1)
