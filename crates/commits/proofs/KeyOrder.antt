-- Keys in byte order: a list of them in order is known by its members, and keys of two arrays stand as their arrays do.
use Rattle.std.proofs.Common.{◌≡◌, ℕ, List, [], ◌∷◌, ◌++◌, Bool, true, false, cond, ◌⊎◌, inl, inr, refl, sym, ap, subst, ◌∙◌, eq-eqb}
use Rattle.std.specs.Prelude.{◌&&◌, ◌==◌}
use Rattle.std.specs.List.{AllByRecursion, IsDistinct}
use Rattle.std.specs.Str.{bytes_eq}
use Rattle.std.specs.declared.cmp.Ordering.{Ordering}
use Rattle.std.specs.declared.cmp.Ordering.TheVariants.{Less, Equal, Greater}
use Rattle.std.specs.Ordering.{is_lt, nat_cmp, ordering_then}
use Rattle.std.specs.Cmp.Lexicographic.{slice_cmp}
use Rattle.std.proofs.lemmas.Slice.Eq.{bytes_eq-Decides}
use Rattle.history.specs.Commit.{Key, is_before, with_key, in_order}
use Rattle.history.specs.Legal.{AreApart, begins}
use Rattle.history.proofs.Laws.{never_itself, other_way, not_under}
use Rattle.cells.proofs.Laws.{true_or_false}
use Rattle.chunk_plans.specs.Changing.{IsOneOf}
use Rattle.chunk_plans.specs.Rising.{AreRising}
use Rattle.chunk_plans.proofs.Laws.{same_byte, same_text}

-- keys behind two texts of which neither begins with the other stand as the texts do
pub apart_order : (us vs xs ys rs ss : List ℕ) → AreApart us vs → is_before (us ++ xs) (vs ++ ys) ≡ is_before (us ++ rs) (vs ++ ss)
apart_order [] vs xs ys rs ss apart = absurd (cc)
  where
    clash : true ≡ false
    clash = apart.first
apart_order (u ∷ us) [] xs ys rs ss apart = absurd (cc)
  where
    clash : true ≡ false
    clash = apart.second
apart_order (u ∷ us) (v ∷ vs) xs ys rs ss apart = by (nat_cmp u v) refl (λ rest. apart_order us vs xs ys rs ss rest)
  where
    rest_apart : u ≡ v → AreApart us vs
    rest_apart same = record {
      first = ap (λ b. b && begins us vs) (sym (tested u v same)) ∙ apart.first;
      second = ap (λ b. b && begins vs us) (sym (tested v u (sym same))) ∙ apart.second;
    }
      where
        tested : (a b : ℕ) → a ≡ b → (a == b) ≡ true
        tested a b same = subst (λ c. (a == c) ≡ true) same (eq-eqb a a refl)

    by : (o : Ordering) → nat_cmp u v ≡ o → (AreApart us vs → is_before (us ++ xs) (vs ++ ys) ≡ is_before (us ++ rs) (vs ++ ss)) → is_before (u ∷ us ++ xs) (v ∷ vs ++ ys) ≡ is_before (u ∷ us ++ rs) (v ∷ vs ++ ss)
    by Less e more = ap (λ p. is_lt (ordering_then p (slice_cmp nat_cmp (us ++ xs) (vs ++ ys)))) e ∙ sym (ap (λ p. is_lt (ordering_then p (slice_cmp nat_cmp (us ++ rs) (vs ++ ss)))) e)
    by Equal e more =
        ap (λ p. is_lt (ordering_then p (slice_cmp nat_cmp (us ++ xs) (vs ++ ys)))) e ∙ more (rest_apart (same_byte u v e))
        ∙ sym (ap (λ p. is_lt (ordering_then p (slice_cmp nat_cmp (us ++ rs) (vs ++ ss)))) e)
    by Greater e more = ap (λ p. is_lt (ordering_then p (slice_cmp nat_cmp (us ++ xs) (vs ++ ys)))) e ∙ sym (ap (λ p. is_lt (ordering_then p (slice_cmp nat_cmp (us ++ rs) (vs ++ ss)))) e)

-- a key before all has none of them
before_apart : (k : Key) (ks : List Key) → AllByRecursion (λ l. is_before k l ≡ true) ks → AllByRecursion (λ l. bytes_eq k l ≡ false) ks
before_apart k [] before = tt
before_apart k (l ∷ ks) before = (by (true_or_false (bytes_eq k l)), before_apart k ks before.1)
  where
    by : (bytes_eq k l ≡ true) ⊎ (bytes_eq k l ≡ false) → bytes_eq k l ≡ false
    by (inl same) = let clash : true ≡ false = sym before.0 ∙ ap (is_before k) (sym ((bytes_eq-Decides k l).0 same)) ∙ never_itself k in absurd (cc)
    by (inr other) = other

-- keys in order are distinct
pub rising_distinct : (ks : List Key) → AreRising ks → IsDistinct bytes_eq ks
unfolding IsDistinct
rising_distinct [] rising = tt
rising_distinct (k ∷ ks) rising = (before_apart k ks rising.0, rising_distinct ks rising.1)

-- one of the keys behind a key that stands before all
pub before_one : (k l : Key) (ks : List Key) → AllByRecursion (λ m. is_before k m ≡ true) ks → IsOneOf ks l → is_before k l ≡ true
before_one k l [] before one = absurd one
before_one k l (m ∷ ks) before (inl same) = ap (is_before k) (sym same) ∙ before.0
before_one k l (m ∷ ks) before (inr more) = before_one k l ks before.1 more

never_both : (k l : Key) → is_before k l ≡ true → is_before l k ≡ true → ⊥
never_both k l one other = let clash : true ≡ false = sym other ∙ other_way k l one in cc

-- two lists in order that have the same keys are one
pub same_rising : (ks ls : List Key) → AreRising ks → AreRising ls → ((k : Key) → IsOneOf ks k → IsOneOf ls k) → ((k : Key) → IsOneOf ls k → IsOneOf ks k) → ks ≡ ls
same_rising [] [] one other to from = refl
same_rising [] (l ∷ ls) one other to from = absurd (from l (inl refl))
same_rising (k ∷ ks) [] one other to from = absurd (to k (inl refl))
same_rising (k ∷ ks) (l ∷ ls) one other to from = ap (λ m. m ∷ ks) first ∙ ap (λ ms. l ∷ ms) (same_rising ks ls one.1 other.1 down up)
  where
    first_by : IsOneOf (l ∷ ls) k → IsOneOf (k ∷ ks) l → k ≡ l
    first_by (inl same) b = sym same
    first_by (inr more) (inl same) = same
    first_by (inr more) (inr less) = absurd (never_both l k (before_one l k ls other.0 more) (before_one k l ks one.0 less))

    first : k ≡ l
    first = first_by (to k (inl refl)) (from l (inl refl))

    down_by : (m : Key) → IsOneOf ks m → IsOneOf (l ∷ ls) m → IsOneOf ls m
    down_by m is (inl same) = let clash : true ≡ false = sym (before_one k m ks one.0 is) ∙ ap (is_before k) (sym same ∙ sym first) ∙ never_itself k in absurd (cc)
    down_by m is (inr more) = more

    down : (m : Key) → IsOneOf ks m → IsOneOf ls m
    down m is = down_by m is (to m (inr is))

    up_by : (m : Key) → IsOneOf ls m → IsOneOf (k ∷ ks) m → IsOneOf ks m
    up_by m is (inl same) = let clash : true ≡ false = sym (before_one l m ls other.0 is) ∙ ap (is_before l) (sym same ∙ first) ∙ never_itself l in absurd (cc)
    up_by m is (inr more) = more

    up : (m : Key) → IsOneOf ls m → IsOneOf ks m
    up m is = up_by m is (from m (inr is))

-- a key that is put among others in order
all_with : (P : Key → Type 0) (k : Key) (ls : List Key) → P k → AllByRecursion P ls → AllByRecursion P (with_key k ls)
all_with P k [] one all = (one, tt)
all_with P k (l ∷ ls) one all = by (all_with P k ls one all.1) (bytes_eq k l) (is_before k l)
  where
    by : AllByRecursion P (with_key k ls) → (same before : Bool) → AllByRecursion P (cond same (l ∷ ls) (cond before (k ∷ l ∷ ls) (l ∷ with_key k ls)))
    by rest true before = all
    by rest false true = (one, all)
    by rest false false = (all.0, rest)

before_chain : (k l : Key) (ls : List Key) → is_before k l ≡ true → AllByRecursion (λ m. is_before l m ≡ true) ls → AllByRecursion (λ m. is_before k m ≡ true) ls
before_chain k l [] less before = tt
before_chain k l (m ∷ ls) less before = (by (true_or_false (is_before k m)), before_chain k l ls less before.1)
  where
    by : (is_before k m ≡ true) ⊎ (is_before k m ≡ false) → is_before k m ≡ true
    by (inl is) = is
    by (inr isnt) = let clash : true ≡ false = sym less ∙ not_under k l m isnt (other_way l m before.0) in absurd (cc)

rising_with : (k : Key) (ls : List Key) → AreRising ls → AreRising (with_key k ls)
rising_with k [] rising = (tt, tt)
rising_with k (l ∷ ls) rising = by (rising_with k ls rising.1) (bytes_eq k l) refl (is_before k l) refl
  where
    other : bytes_eq k l ≡ false → is_before k l ≡ false → is_before l k ≡ true
    other apart above = told (true_or_false (is_before l k))
      where
        told : (is_before l k ≡ true) ⊎ (is_before l k ≡ false) → is_before l k ≡ true
        told (inl is) = is
        told (inr isnt) = let clash : true ≡ false = sym ((bytes_eq-Decides k l).1 (same_text k l above isnt)) ∙ apart in absurd (cc)

    by : AreRising (with_key k ls) → (same : Bool) → bytes_eq k l ≡ same → (before : Bool) → is_before k l ≡ before → AreRising (cond same (l ∷ ls) (cond before (k ∷ l ∷ ls) (l ∷ with_key k ls)))
    by rest true e before f = rising
    by rest false e true f = ((f, before_chain k l ls f rising.0), rising)
    by rest false e false f = (all_with (λ m. is_before l m ≡ true) k ls (other e f) rising.0, rest)

one_with : (k m : Key) (ls : List Key) → IsOneOf (with_key k ls) m → (k ≡ m) ⊎ IsOneOf ls m
one_with k m [] one = one
one_with k m (l ∷ ls) one = by (λ more. one_with k m ls more) (bytes_eq k l) refl (is_before k l) one
  where
    later : (k ≡ m) ⊎ IsOneOf ls m → (k ≡ m) ⊎ IsOneOf (l ∷ ls) m
    later (inl same) = inl same
    later (inr more) = inr (inr more)

    by : (IsOneOf (with_key k ls) m → (k ≡ m) ⊎ IsOneOf ls m) → (same : Bool) → bytes_eq k l ≡ same → (before : Bool) → IsOneOf (cond same (l ∷ ls) (cond before (k ∷ l ∷ ls) (l ∷ with_key k ls))) m → (k ≡ m) ⊎ IsOneOf (l ∷ ls) m
    by rest true e before is = inr is
    by rest false e true is = is
    by rest false e false (inl same) = inr (inl same)
    by rest false e false (inr more) = later (rest more)

with_one : (k m : Key) (ls : List Key) → (k ≡ m) ⊎ IsOneOf ls m → IsOneOf (with_key k ls) m
with_one k m [] one = one
with_one k m (l ∷ ls) one = by (λ rest. with_one k m ls rest) (bytes_eq k l) refl (is_before k l) one
  where
    by : ((k ≡ m) ⊎ IsOneOf ls m → IsOneOf (with_key k ls) m) → (same : Bool) → bytes_eq k l ≡ same → (before : Bool) → (k ≡ m) ⊎ IsOneOf (l ∷ ls) m → IsOneOf (cond same (l ∷ ls) (cond before (k ∷ l ∷ ls) (l ∷ with_key k ls))) m
    by rest true e before (inl same) = inl (sym ((bytes_eq-Decides k l).0 e) ∙ same)
    by rest true e before (inr more) = more
    by rest false e true is = is
    by rest false e false (inl same) = inr (rest (inl same))
    by rest false e false (inr (inl here)) = inl here
    by rest false e false (inr (inr more)) = inr (rest (inr more))

rising_in_order : (ks : List Key) → AreRising (in_order ks)
rising_in_order [] = tt
rising_in_order (k ∷ ks) = rising_with k (in_order ks) (rising_in_order ks)

from_order : (m : Key) (ks : List Key) → IsOneOf (in_order ks) m → IsOneOf ks m
from_order m [] one = one
from_order m (k ∷ ks) one = elim (one_with k m (in_order ks) one) [
  | inl same ↦ inl same
  | inr more ↦ inr (from_order m ks more)
]

to_order : (m : Key) (ks : List Key) → IsOneOf ks m → IsOneOf (in_order ks) m
to_order m [] one = one
to_order m (k ∷ ks) (inl same) = with_one k m (in_order ks) (inl same)
to_order m (k ∷ ks) (inr more) = with_one k m (in_order ks) (inr (to_order m ks more))

-- some keys in order are a list in order that has the same keys
pub in_order_is : (ks ls : List Key) → AreRising ls → ((k : Key) → IsOneOf ks k → IsOneOf ls k) → ((k : Key) → IsOneOf ls k → IsOneOf ks k) → in_order ks ≡ ls
in_order_is ks ls rising to from = same_rising (in_order ks) ls (rising_in_order ks) rising (λ k is. to k (from_order k ks is)) (λ k is. to_order k ks (from k is))
