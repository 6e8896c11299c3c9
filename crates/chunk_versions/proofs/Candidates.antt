-- Candidates and what rules them out.
use Rattle.std.proofs.Common.{◌≡◌, ◌<◌, ◌≤◌, ◌⊎◌, inl, inr, ℕ, zero, suc, ◌+◌, max, List, [], ◌∷◌, length, get_or, set, replicate, Bool, false, refl, sym, ap, subst, ◌∙◌, arith}
use Rattle.std.specs.Prelude.{◌↔◌}
use Rattle.cells.proofs.Laws.{less_or_not}
use Rattle.chunk_versions.specs.Reach.{reached, IsGood, AreJudged}

set_low : (reach : List ℕ) (b until k : ℕ) → k < b → reached (set reach b until) k ≡ reached reach k
set_low [] b until k low = refl
set_low (e ∷ es) zero until k low = absurd (omega (arith, low))
set_low (e ∷ es) (suc b) until zero low = refl
set_low (e ∷ es) (suc b) until (suc k) low = ap (max e) (set_low es b until k (omega (arith, low)))

set_high : (reach : List ℕ) (b until k : ℕ) → b < length reach → b ≤ k → get_or reach b 0 ≤ until → reached (set reach b until) k ≡ max (reached reach k) until
set_high [] b until k within high more = absurd (omega (arith, within))
set_high (e ∷ es) zero until zero within high more = let less : e ≤ until = more in omega (arith, less)
set_high (e ∷ es) zero until (suc k) within high more = let less : e ≤ until = more in omega (arith, less)
set_high (e ∷ es) (suc b) until zero within high more = absurd (omega (arith, high))
set_high (e ∷ es) (suc b) until (suc k) within high more =
    let rest = set_high es b until k (omega (arith, within)) (omega (arith, high)) more in
    ap (max e) rest ∙ (let same : max e (max (reached es k) until) ≡ max (max e (reached es k)) until = omega arith in same)

-- the greatest entry is no less than each
pub reached_least : (reach : List ℕ) (b k : ℕ) → b ≤ k → get_or reach b 0 ≤ reached reach k
reached_least [] b k high = omega arith
reached_least (e ∷ es) zero zero high = omega arith
reached_least (e ∷ es) zero (suc k) high = omega arith
reached_least (e ∷ es) (suc b) zero high = absurd (omega (arith, high))
reached_least (e ∷ es) (suc b) (suc k) high = let rest = reached_least es b k (omega (arith, high)) in omega (arith, rest)

-- one place more
pub reached_first : (reach : List ℕ) → reached reach 0 ≡ get_or reach 0 0
reached_first [] = refl
reached_first (e ∷ es) = refl

pub reached_more : (reach : List ℕ) (k : ℕ) → reached reach (suc k) ≡ max (reached reach k) (get_or reach (suc k) 0)
reached_more [] k = refl
reached_more (e ∷ es) zero = ap (max e) (reached_first es)
reached_more (e ∷ es) (suc k) =
    ap (max e) (reached_more es k) ∙ (let same : max e (max (reached es k) (get_or es (suc k) 0)) ≡ max (max e (reached es k)) (get_or es (suc k) 0) = omega arith in same)

-- nothing rules out at first
pub reached_none : (n k : ℕ) → reached (replicate n 0) k ≡ 0
reached_none zero k = refl
reached_none (suc n) zero = refl
reached_none (suc n) (suc k) = ap (max 0) (reached_none n k)

-- nothing has to be ruled out
pub none_ruled : (reach : List ℕ) (P : ℕ → Type 0) → ((k : ℕ) → IsGood reach k → P k) → AreJudged reach reach P
none_ruled reach P all k within = (λ good. (good, all k good), λ both. both.0)

-- those from a place on are ruled out by its entry
module _ (reach : List ℕ) (begin until : ℕ) where
  pub ruled_already : until ≤ get_or reach begin 0 → AreJudged reach reach (λ k. begin ≤ k → until ≤ k)
  ruled_already past = none_ruled reach (λ k. begin ≤ k → until ≤ k) (λ k good high. let least = reached_least reach begin k high in omega (arith, least, good, past))

  pub ruled_now : begin < length reach → get_or reach begin 0 < until → AreJudged reach (set reach begin until) (λ k. begin ≤ k → until ≤ k)
  ruled_now within more k inside = by (less_or_not k begin) where
    by : (k < begin) ⊎ (begin ≤ k) → IsGood (set reach begin until) k ↔ (IsGood reach k × (begin ≤ k → until ≤ k))
    by (inl low) =
        let same = set_low reach begin until k low in
        (λ good. (omega (arith, good, same), λ high. absurd (omega (arith, low, high))), λ both. omega (arith, both.0, same))
    by (inr high) =
        let same = set_high reach begin until k within high (omega (arith, more)) in
        (λ good. (omega (arith, good, same), λ again. omega (arith, good, same)), λ both. let past = both.1 high in omega (arith, both.0, past, same))

-- they are, where the word doesn't fit
pub ruled_if : (old new : List ℕ) (begin until : ℕ) (fits : Bool) → fits ≡ false → AreJudged old new (λ k. begin ≤ k → until ≤ k) → AreJudged old new (λ k. fits ≡ false → begin ≤ k → until ≤ k)
ruled_if old new begin until fits isnt judged k within =
    let here = judged k within in
    (λ good. let both = here.0 good in (both.0, λ is. both.1), λ both. here.1 (both.0, both.1 isnt))

-- the greatest entry so far, with the next one
pub next_far : (reach : List ℕ) (k far : ℕ) → far ≡ reached reach k → max far (get_or reach (k + 1) 0) ≡ reached reach (k + 1)
next_far reach k far is =
    let next : suc k ≡ k + 1 = omega arith in
    subst (λ j. max far (get_or reach j 0) ≡ reached reach j) next (ap (λ f. max f (get_or reach (suc k) 0)) is ∙ sym (reached_more reach k))

pub first_far : (reach : List ℕ) → max 0 (get_or reach 0 0) ≡ reached reach 0
first_far reach = let same = reached_first reach in omega (arith, same)

pub none_more : (reach : List ℕ) (k : ℕ) → ((j : ℕ) → j < k → ¬ IsGood reach j) → k < reached reach k → (j : ℕ) → j < k + 1 → ¬ IsGood reach j
none_more reach k none far j low good = by (less_or_not j k) where
  by : (j < k) ⊎ (k ≤ j) → ⊥
  by (inl less) = none j less good
  by (inr not) = let same = ap (reached reach) (let equal : j ≡ k = omega (arith, low, not) in equal) in omega (arith, same, good, far, low)
