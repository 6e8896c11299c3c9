-- The places of nested loops in the view rise.
use Rattle.std.proofs.Common.{◌≡◌, ℕ, zero, suc, ◌+◌, ◌*◌, ◌-◌, ◌<◌, ◌≤◌, ℤ, pos, ◌+ℤ◌, ◌*ℤ◌, List, [], ◌∷◌, ◌++◌, Some, ap, subst, arith}
use Rattle.std.specs.List.{fold, flat_map, range_with_len}
use Rattle.strided_runs.specs.declared.lines.Loop.{Loop}
use Rattle.strided_runs.specs.Loops.{looped}
use Rattle.strided_runs.specs.Growing.{IsUpTo}
use Rattle.strided_runs.specs.Growing.{Grown, grown}
use Rattle.strided_runs.specs.Loops.{AllRun, ViewsRise, view_reach}
use Rattle.cells.specs.Runs.{Pair}
use Rattle.strided_runs.proofs.GrowingLaws.{up_to-more}

-- the places in the view rise from one on, and stay below another
abbrev pub Rise : ℕ → List Pair → ℕ → Type 0
Rise low [] high = low ≤ high
Rise low (p ∷ pairs) high = (low ≤ p.view) × Rise (p.view + 1) pairs high

pub up_to-rise : (pairs : List Pair) (low high : ℕ) (g : Grown) → Rise low pairs high → IsUpTo low g → IsUpTo high (fold grown g pairs)
up_to-rise [] low high g rise up = omega arith
up_to-rise (p ∷ pairs) low high g rise up = up_to-rise pairs (p.view + 1) high (grown g p) rise.1 (up_to-more (Some g) p (omega (arith, rise.0)))

rise-lower : (pairs : List Pair) (low low' high : ℕ) → low' ≤ low → Rise low pairs high → Rise low' pairs high
rise-lower [] low low' high le rise = omega arith
rise-lower (p ∷ pairs) low low' high le rise = (omega (arith, rise.0), rise.1)

rise-higher : (pairs : List Pair) (low high high' : ℕ) → high ≤ high' → Rise low pairs high → Rise low pairs high'
rise-higher [] low high high' le rise = omega arith
rise-higher (p ∷ pairs) low high high' le rise = (rise.0, rise-higher pairs (p.view + 1) high high' le rise.1)

rise-append : (xs ys : List Pair) (low mid high : ℕ) → Rise low xs mid → Rise mid ys high → Rise low (xs ++ ys) high
rise-append [] ys low mid high a b = rise-lower ys mid low high a b
rise-append (p ∷ xs) ys low mid high a b = (a.0, rise-append xs ys (p.view + 1) mid high a.1 b)

-- turns each of which stays below the next one
module _ (turn : ℕ → List Pair) (v s reach : ℕ) (below : reach < s) (each : (k : ℕ) → Rise (v + s * k) (turn k) (v + s * k + (reach + 1))) where
  one_turn : (k : ℕ) → Rise (v + s * k) (turn k) (v + s * (k + 1))
  one_turn k = rise-higher (turn k) (v + s * k) (v + s * k + (reach + 1)) (v + s * (k + 1)) (omega arith) (each k)

  turns : (n k : ℕ) → Rise (v + s * k) (flat_map turn (range_with_len k n)) (v + s * (k + n))
  turns zero k = omega arith
  turns (suc n) k =
      let e : v + s * ((k + 1) + n) ≡ v + s * (k + suc n) = omega arith in
      subst (Rise (v + s * k) (flat_map turn (range_with_len k (suc n)))) e
      (rise-append (turn k) (flat_map turn (range_with_len (k + 1) n)) (v + s * k) (v + s * (k + 1)) (v + s * ((k + 1) + n)) (one_turn k) (turns n (k + 1)))

  pub turns-so_far : (k : ℕ) → Rise v (flat_map turn (range_with_len 0 k)) (v + s * k)
  turns-so_far k =
      let e : 0 + k ≡ k = omega arith in
      let f : v ≤ v + s * 0 = omega arith in
      rise-lower (flat_map turn (range_with_len 0 k)) (v + s * 0) v (v + s * k) f
      (subst (λ n. Rise (v + s * 0) (flat_map turn (range_with_len 0 k)) (v + s * n)) e (turns k 0))

  turns-and_last : (n k : ℕ) → Rise (v + s * k) (flat_map turn (range_with_len k (suc n))) (v + s * (k + n) + (reach + 1))
  turns-and_last zero k =
      let e : v + s * k + (reach + 1) ≤ v + s * (k + 0) + (reach + 1) = omega arith in
      rise-append (turn k) [] (v + s * k) (v + s * k + (reach + 1)) (v + s * (k + 0) + (reach + 1)) (each k) e
  turns-and_last (suc n) k =
      let e : v + s * ((k + 1) + n) + (reach + 1) ≡ v + s * (k + suc n) + (reach + 1) = omega arith in
      subst (Rise (v + s * k) (flat_map turn (range_with_len k (suc (suc n))))) e
      (rise-append (turn k) (flat_map turn (range_with_len (k + 1) (suc n))) (v + s * k) (v + s * (k + 1)) (v + s * ((k + 1) + n) + (reach + 1)) (one_turn k) (turns-and_last n (k + 1)))

  pub all_turns : (t : ℕ) → 0 < t → Rise v (flat_map turn (range_with_len 0 t)) (v + (s * (t - 1) + reach) + 1)
  all_turns zero some = absurd (omega arith)
  all_turns (suc n) some =
      let e : v + s * (0 + n) + (reach + 1) ≤ v + (s * (suc n - 1) + reach) + 1 = let m : suc n - 1 ≡ n = omega arith in omega (arith, ap (λ j. s * j) m) in
      let f : v ≤ v + s * 0 = omega arith in
      rise-lower (flat_map turn (range_with_len 0 (suc n))) (v + s * 0) v (v + (s * (suc n - 1) + reach) + 1) f
      (rise-higher (flat_map turn (range_with_len 0 (suc n))) (v + s * 0) (v + s * (0 + n) + (reach + 1)) (v + (s * (suc n - 1) + reach) + 1) e (turns-and_last n 0))

pub rise-looped : (loops : List Loop) (v : ℕ) (c : ℤ) → AllRun loops → ViewsRise loops → Rise v (looped loops v c) (v + view_reach loops + 1)
rise-looped [] v c run rise = (omega arith, omega arith)
rise-looped (loop ∷ loops) v c run rise =
    all_turns (λ k. looped loops (v + loop.view_step * k) (c +ℤ loop.chunk_step *ℤ pos k)) v loop.view_step (view_reach loops) rise.0
    (λ k. let e : v + loop.view_step * k + view_reach loops + 1 ≡ v + loop.view_step * k + (view_reach loops + 1) = omega arith in
    subst (Rise (v + loop.view_step * k) (looped loops (v + loop.view_step * k) (c +ℤ loop.chunk_step *ℤ pos k))) e
    (rise-looped loops (v + loop.view_step * k) (c +ℤ loop.chunk_step *ℤ pos k) run.1 rise.1))
    loop.times run.0

-- after some turns of a loop the runs reach no further than the next turn
pub up_to-turns : (loop : Loop) (loops : List Loop) (v : ℕ) (c : ℤ) (k : ℕ) (g : Grown) → AllRun (loop ∷ loops) → ViewsRise (loop ∷ loops) → IsUpTo v g
    → IsUpTo (v + loop.view_step * k) (fold grown g (flat_map (λ j. looped loops (v + loop.view_step * j) (c +ℤ loop.chunk_step *ℤ pos j)) (range_with_len 0 k)))
up_to-turns loop loops v c k g run rise up =
    up_to-rise (flat_map (λ j. looped loops (v + loop.view_step * j) (c +ℤ loop.chunk_step *ℤ pos j)) (range_with_len 0 k)) v (v + loop.view_step * k) g
    (turns-so_far (λ j. looped loops (v + loop.view_step * j) (c +ℤ loop.chunk_step *ℤ pos j)) v loop.view_step (view_reach loops) rise.0
    (λ j. let e : v + loop.view_step * j + view_reach loops + 1 ≡ v + loop.view_step * j + (view_reach loops + 1) = omega arith in
    subst (Rise (v + loop.view_step * j) (looped loops (v + loop.view_step * j) (c +ℤ loop.chunk_step *ℤ pos j))) e
    (rise-looped loops (v + loop.view_step * j) (c +ℤ loop.chunk_step *ℤ pos j) run.1 rise.1))
    k)
    up
