-- How many arrays are open behind each number of events.
use Rattle.std.proofs.Common.{◌≡◌, ◌∙◌, ◌⊎◌, inl, inr, Bool, true, false, cond, ◌<◌, ◌≤◌, ◌+◌, ℕ, zero, suc, List, [], ◌∷◌, ◌++◌, get_or, take, length, refl, sym, ap, arith}
use Rattle.std.specs.Prelude.{count_by}
use Rattle.history.specs.declared.event.Event.{Event}
use Rattle.history.specs.History.{History}
use Rattle.open_fits.proofs.Laws.{count_next}
use Rattle.history.specs.Legal.{is_opening}
use Rattle.transcript_fits.specs.Judges.{AreCounts}

-- they are known up to a number
pub record AreCountsUpTo (events : History) (i count : ℕ) (counts : List ℕ) : Type 0 where
  pub long : length counts ≡ i + 1
  pub last : count ≡ count_by is_opening (take i events)
  pub few : count ≤ i
  pub each : (n : ℕ) → n ≤ i → get_or counts n 0 ≡ count_by is_opening (take n events)

pub no_counts : (events : History) → AreCountsUpTo events 0 0 (0 ∷ [])
no_counts events = record { long = refl; last = refl; few = omega arith; each = λ n low. first n low }
  where
    first : (n : ℕ) → n ≤ 0 → get_or (0 ∷ []) n 0 ≡ count_by is_opening (take n events)
    first zero low = refl
    first (suc n) low = absurd (omega (arith, low))

got_front : (xs : List ℕ) (x n : ℕ) → n < length xs → get_or (xs ++ x ∷ []) n 0 ≡ get_or xs n 0
got_front [] x n low = absurd (omega (arith, low))
got_front (y ∷ xs) x zero low = refl
got_front (y ∷ xs) x (suc n) low = got_front xs x n (omega (arith, low))

got_last : (xs : List ℕ) (x n : ℕ) → n ≡ length xs → get_or (xs ++ x ∷ []) n 0 ≡ x
got_last [] x zero is = refl
got_last [] x (suc n) is = absurd (omega (arith, is))
got_last (y ∷ xs) x zero is = absurd (omega (arith, is))
got_last (y ∷ xs) x (suc n) is = got_last xs x n (omega (arith, is))

pub counts_more : (events : History) (i old new : ℕ) (counts : List ℕ) (e : Event) → i < length events → e ≡ get_or events i e → new ≡ old + cond (is_opening e) 1 0 → AreCountsUpTo events i old counts → AreCountsUpTo events (i + 1) new (counts ++ new ∷ [])
counts_more events i old new counts e low there is are = record {
  long = length_more counts ∙ ap (λ n. n + 1) are.long;
  last = last_is;
  few = let one = at_most (is_opening e) in let under = are.few in omega (arith, is, one, under);
  each = λ n upto. by n upto (below_or n (i + 1));
}
  where
    length_more : (xs : List ℕ) → length (xs ++ new ∷ []) ≡ length xs + 1
    length_more [] = refl
    length_more (x ∷ xs) = let rest = length_more xs in omega (arith, rest)

    at_most : (b : Bool) → cond b 1 0 ≤ 1
    at_most true = omega arith
    at_most false = omega arith

    last_is : new ≡ count_by is_opening (take (i + 1) events)
    last_is = is ∙ count_next events i old (cond (is_opening e) 1 0) e low there are.last refl

    below_or : (n k : ℕ) → (n < k) ⊎ (k ≤ n)
    below_or n zero = inr (omega arith)
    below_or zero (suc k) = inl (omega arith)
    below_or (suc n) (suc k) = elim (below_or n k) [ inl under ↦ inl (omega (arith, under)) | inr over ↦ inr (omega (arith, over)) ]

    by : (n : ℕ) → n ≤ i + 1 → (n < i + 1) ⊎ (i + 1 ≤ n) → get_or (counts ++ new ∷ []) n 0 ≡ count_by is_opening (take n events)
    by n upto (inl under) =
        let long = are.long in
        got_front counts new n (omega (arith, under, long)) ∙ are.each n (omega (arith, under))
    by n upto (inr over) =
        let long = are.long in
        let same : n ≡ i + 1 = omega (arith, upto, over) in
        got_last counts new n (omega (arith, same, long)) ∙ last_is ∙ ap (λ m. count_by is_opening (take m events)) (sym same)

pub all_counts : (events : History) (i count : ℕ) (counts : List ℕ) → i ≡ length events → AreCountsUpTo events i count counts → AreCounts events counts
all_counts events i count counts is are = record {
  long = are.long ∙ ap (λ n. n + 1) is;
  each = λ n low. are.each n (omega (arith, low, is));
}
