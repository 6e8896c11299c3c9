-- How many of some rising numbers have happened at a moment.
use Rattle.std.proofs.Common.{◌≡◌, ◌≢◌, ◌<◌, ◌≤◌, ◌⊎◌, inl, inr, ℕ, zero, suc, ◌+◌, ◌-◌, List, [], ◌∷◌, ◌++◌, length, get_or, cond, sym, ap, subst, ◌∙◌, arith, le-leb, eq-eqb, ne_eqb}
use Rattle.std.specs.Prelude.{Contains, Result, Ok, Err}
use Rattle.std.specs.Ordering.{nat_cmp}
use Rattle.std.specs.List.Sorted.{IsBinarySearchResult}
use Rattle.std.proofs.lemmas.List.Sorted.{searched}
use Rattle.std.proofs.lemmas.Result.{MatchResult-at_ok, MatchResult-at_err}
use Rattle.std.proofs.lemmas.List.{get_or_append_left, get_or_push, length_push, get_or_default}
use Rattle.cells.proofs.Laws.{less_or_not, equal_or_not}
use Rattle.chunk_versions.specs.Moments.{IsRising, up_to, newest, touched}
use borrow.Author.Tests.{lt-leb}

up_to_yes : (m n : ℕ) (ns : List ℕ) → n ≤ m → up_to m (n ∷ ns) ≡ suc (up_to m ns)
up_to_yes m n ns low = ap (λ b. cond b (suc (up_to m ns)) 0) (le-leb n m low)

up_to_no : (m n : ℕ) (ns : List ℕ) → m < n → up_to m (n ∷ ns) ≡ 0
up_to_no m n ns high = ap (λ b. cond b (suc (up_to m ns)) 0) (lt-leb n m high)

-- these many have happened, and the next one hasn't
pub record IsUpTo (m : ℕ) (ns : List ℕ) (c : ℕ) : Type 0 where
  pub few : c ≤ length ns
  pub low : (k : ℕ) → k < c → get_or ns k 0 ≤ m
  pub high : c < length ns → m < get_or ns c 0

pub up_to_is : (m : ℕ) (ns : List ℕ) (c : ℕ) → IsUpTo m ns c → up_to m ns ≡ c
up_to_is m [] c is = let few : c ≤ 0 = is.few in omega (arith, few)
up_to_is m (n ∷ ns) zero is = up_to_no m n ns (is.high (omega arith))
up_to_is m (n ∷ ns) (suc c) is =
    up_to_yes m n ns (is.low 0 (omega arith))
    ∙ ap suc (up_to_is m ns c (record {
      few = let few : suc c ≤ suc (length ns) = is.few in omega (arith, few);
      low = λ k low. is.low (suc k) (omega (arith, low));
      high = λ high. is.high (omega (arith, high));
    }))

module _ (m n : ℕ) (ns : List ℕ) where
  one_more : n ≤ m → IsUpTo m ns (up_to m ns) → IsUpTo m (n ∷ ns) (suc (up_to m ns))
  one_more first is = record {
    few = omega (arith, is.few);
    low = lows;
    high = λ high. is.high (omega (arith, high));
  } where
    lows : (k : ℕ) → k < suc (up_to m ns) → get_or (n ∷ ns) k 0 ≤ m
    lows zero low = first
    lows (suc k) low = is.low k (omega (arith, low))

  up_to_either : (m < n) ⊎ (n ≤ m) → IsUpTo m ns (up_to m ns) → IsUpTo m (n ∷ ns) (up_to m (n ∷ ns))
  up_to_either (inl high) is = subst (IsUpTo m (n ∷ ns)) (sym (up_to_no m n ns high)) (record { few = omega arith; low = λ k low. absurd (omega (arith, low)); high = λ some. high })
  up_to_either (inr low) is = subst (IsUpTo m (n ∷ ns)) (sym (up_to_yes m n ns low)) (one_more low is)

pub up_to_has : (m : ℕ) (ns : List ℕ) → IsUpTo m ns (up_to m ns)
up_to_has m [] = record { few = omega arith; low = λ k low. absurd (omega (arith, low)); high = λ high. absurd (omega (arith, high)) }
up_to_has m (n ∷ ns) = up_to_either m n ns (less_or_not m n) (up_to_has m ns)

-- later moments have as many or more
pub up_to_later : (m p : ℕ) (ns : List ℕ) → m ≤ p → up_to m ns ≤ up_to p ns
up_to_later m p ns later = by (less_or_not (up_to p ns) (up_to m ns)) where
  by : (up_to p ns < up_to m ns) ⊎ (up_to m ns ≤ up_to p ns) → up_to m ns ≤ up_to p ns
  by (inl less) =
      let few = (up_to_has m ns).few in
      let one = (up_to_has m ns).low (up_to p ns) less in
      let other = (up_to_has p ns).high (omega (arith, less, few)) in
      absurd (omega (arith, one, other, later))
  by (inr is) = is

-- the last of rising numbers is the greatest
pub all_low : (ns : List ℕ) → IsRising ns → (k : ℕ) → k < length ns → get_or ns k 0 ≤ newest ns
all_low ns rising k within = by (equal_or_not k (length ns - 1)) where
  by : (k ≡ length ns - 1) ⊎ (k ≢ length ns - 1) → get_or ns k 0 ≤ newest ns
  by (inl last) = let same = ap (λ j. get_or ns j 0) last in omega (arith, same)
  by (inr other) = let less = rising.each k (length ns - 1) (omega (arith, within, other)) (omega (arith, within)) in omega (arith, less)

-- at the moment of the last, all have happened
pub up_to_all : (m : ℕ) (ns : List ℕ) → IsRising ns → newest ns ≤ m → up_to m ns ≡ length ns
up_to_all m ns rising late = up_to_is m ns (length ns) (record {
  few = omega arith;
  low = λ k low. let least = all_low ns rising k low in omega (arith, least, late);
  high = λ high. absurd (omega (arith, high));
})

-- before the last, not all have
pub up_to_less : (m : ℕ) (ns : List ℕ) → 0 < length ns → m < newest ns → up_to m ns < length ns
up_to_less m ns some early = by (less_or_not (up_to m ns) (length ns)) where
  by : (up_to m ns < length ns) ⊎ (length ns ≤ up_to m ns) → up_to m ns < length ns
  by (inl less) = less
  by (inr not) = let late = (up_to_has m ns).low (length ns - 1) (omega (arith, some, not)) in absurd (omega (arith, late, early))

-- one number more, behind the others
module _ (m n : ℕ) (ns : List ℕ) where
  pub up_to_before : m < n → up_to m (ns ++ n ∷ []) ≡ up_to m ns
  up_to_before early = up_to_is m (ns ++ n ∷ []) (up_to m ns) (record { few = omega (arith, has.few, length_push ns n); low = lows; high = highs }) where
    has : IsUpTo m ns (up_to m ns)
    has = up_to_has m ns

    lows : (k : ℕ) → k < up_to m ns → get_or (ns ++ n ∷ []) k 0 ≤ m
    lows k low = subst (λ x. x ≤ m) (sym (get_or_append_left ns (n ∷ []) 0 k (omega (arith, low, has.few)))) (has.low k low)

    highs : up_to m ns < length (ns ++ n ∷ []) → m < get_or (ns ++ n ∷ []) (up_to m ns) 0
    highs high = by (less_or_not (up_to m ns) (length ns)) where
      by : (up_to m ns < length ns) ⊎ (length ns ≤ up_to m ns) → m < get_or (ns ++ n ∷ []) (up_to m ns) 0
      by (inl less) = subst (λ x. m < x) (sym (get_or_append_left ns (n ∷ []) 0 (up_to m ns) less)) (has.high less)
      by (inr not) = subst (λ x. m < x) (sym (get_or_push ns n 0 (up_to m ns) (omega (arith, not, has.few)))) early

  pub up_to_behind : IsRising ns → newest ns < n → n ≤ m → up_to m (ns ++ n ∷ []) ≡ suc (length ns)
  up_to_behind rising next late = up_to_is m (ns ++ n ∷ []) (suc (length ns)) (record { few = omega (arith, length_push ns n); low = lows; high = λ high. absurd (omega (arith, high, length_push ns n)) }) where
    lows : (k : ℕ) → k < suc (length ns) → get_or (ns ++ n ∷ []) k 0 ≤ m
    lows k low = by (less_or_not k (length ns)) where
      by : (k < length ns) ⊎ (length ns ≤ k) → get_or (ns ++ n ∷ []) k 0 ≤ m
      by (inl less) =
          let least = all_low ns rising k less in
          subst (λ x. x ≤ m) (sym (get_or_append_left ns (n ∷ []) 0 k less)) (omega (arith, least, next, late))
      by (inr not) = subst (λ x. x ≤ m) (sym (get_or_push ns n 0 k (omega (arith, not, low)))) late

-- the newest of numbers with one put behind them
pub newest_push : (n : ℕ) (ns : List ℕ) → newest (ns ++ n ∷ []) ≡ n
newest_push n ns = get_or_push ns n 0 (length (ns ++ n ∷ []) - 1) (omega (arith, length_push ns n))

module _ (n : ℕ) (ns : List ℕ) where
  -- the same number, and another
  pub touched_same : newest ns ≡ n → touched n ns ≡ ns
  touched_same same = ap (λ b. cond b ns (ns ++ n ∷ [])) (eq-eqb (newest ns) n same)

  pub touched_next : newest ns < n → touched n ns ≡ ns ++ n ∷ []
  touched_next next = ap (λ b. cond b ns (ns ++ n ∷ [])) (ne_eqb (newest ns) n (λ same. omega (arith, next, same)))

  pub newest_touched : newest ns ≤ n → newest (touched n ns) ≡ n
  newest_touched high = by (equal_or_not (newest ns) n) where
    by : (newest ns ≡ n) ⊎ (newest ns ≢ n) → newest (touched n ns) ≡ n
    by (inl same) = ap newest (touched_same same) ∙ same
    by (inr other) = ap newest (touched_next (omega (arith, high, other))) ∙ newest_push n ns

-- what a search among them finds
rises : (ns : List ℕ) → IsRising ns → (i j : ℕ) → i ≤ j → j < length ns → get_or ns i 0 ≤ get_or ns j 0
rises ns rising i j order within = by (equal_or_not i j) where
  by : (i ≡ j) ⊎ (i ≢ j) → get_or ns i 0 ≤ get_or ns j 0
  by (inl same) = let equal = ap (λ k. get_or ns k 0) same in omega (arith, equal)
  by (inr other) = let less = rising.each i j (omega (arith, order, other)) within in omega (arith, less)

module _ (m : ℕ) (ns : List ℕ) (rising : IsRising ns) where
  found_count : (i : ℕ) → (i < length ns) × (get_or ns i 0 ≡ m) → i + 1 ≡ up_to m ns
  found_count i found = sym (up_to_is m ns (i + 1) (record {
    few = omega (arith, found.0);
    low = λ k low. let least = rises ns rising k i (omega (arith, low)) found.0 in omega (arith, least, found.1);
    high = λ high. let less = rising.each i (i + 1) (omega arith) high in omega (arith, less, found.1);
  }))

  missing_count : (i : ℕ) → (i ≤ length ns) × ((k : ℕ) → k < i → get_or ns k 0 < m) × ((k : ℕ) → i ≤ k → k < length ns → m < get_or ns k 0) → i ≡ up_to m ns
  missing_count i missing = sym (up_to_is m ns i (record {
    few = missing.0;
    low = λ k low. let less = missing.1 k low in omega (arith, less);
    high = λ high. missing.2 i (omega arith) high;
  }))

  module _ (r : Result ℕ ℕ) (is : IsBinarySearchResult (λ y. nat_cmp y m) ns r) where
    -- how many have happened at a moment
    pub count_at_ok : (i : ℕ) → r ≡ Ok i → i + 1 ≡ up_to m ns
    count_at_ok i at = found_count i (MatchResult-at_ok _ _ i at (searched ns m r is (rises ns rising)))

    pub count_at_err : (i : ℕ) → r ≡ Err i → i ≡ up_to m ns
    count_at_err i at = missing_count i (MatchResult-at_err _ _ i at (searched ns m r is (rises ns rising)))

    -- whether the number is among them
    pub among_at_ok : (i : ℕ) → r ≡ Ok i → Contains ns m
    among_at_ok i at =
        let found : (i < length ns) × (get_or ns i 0 ≡ m) = MatchResult-at_ok _ _ i at (searched ns m r is (rises ns rising)) in
        (i, found.0, get_or_default ns i m 0 found.0 ∙ found.1)

    pub among_at_err : (i : ℕ) → r ≡ Err i → Contains ns m → ⊥
    among_at_err i at has = by (less_or_not has.0 i) where
      missing : (i ≤ length ns) × ((k : ℕ) → k < i → get_or ns k 0 < m) × ((k : ℕ) → i ≤ k → k < length ns → m < get_or ns k 0)
      missing = MatchResult-at_err _ _ i at (searched ns m r is (rises ns rising))

      here : get_or ns has.0 0 ≡ m
      here = get_or_default ns has.0 0 m has.1 ∙ has.2

      by : (has.0 < i) ⊎ (i ≤ has.0) → ⊥
      by (inl low) = let less = missing.1 has.0 low in omega (arith, less, here)
      by (inr high) = let more = missing.2 has.0 high has.1 in omega (arith, more, here)
