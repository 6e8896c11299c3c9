-- Joined loops keep the conditions of nested loops.
use Rattle.std.proofs.Common.{◌≡◌, ◌∙◌, ℕ, zero, suc, ◌+◌, ◌*◌, ◌-◌, ◌<◌, ◌≤◌, ◌/◌, ◌%◌, ℤ, pos, ◌+ℤ◌, ◌*ℤ◌, Bool, true, false, cond, List, [], ◌∷◌, ◌⊎◌, inl, inr, refl, sym, ap, subst, arith}
use Rattle.std.proofs.Math.Nat.{mul-le-mul_left}
use Rattle.strided_runs.specs.declared.lines.Loop.{Loop}
use Rattle.strided_runs.specs.Loops.{AllRun, ViewsRise, StayPlaces, view_reach, run_as_one, as_one, joined}
use Rattle.strided_runs.proofs.LineLaws.{AreOne, are_one, merged, chunk_stays, chunk_place}

-- loops that run, and whose places in the view rise and are few
pub record AreSmall (loops : List Loop) (view : ℕ) : Type 0 where
  pub run : AllRun loops
  pub rise : ViewsRise loops
  pub small : view + view_reach loops < 4194304

reach-merged : (s t b : ℕ) → 0 < s → 0 < t → (t * b) * (s - 1) + b * (t - 1) ≡ b * (s * t - 1)
reach-merged zero t b some more = absurd (omega arith)
reach-merged (suc s) zero b some more = absurd (omega arith)
reach-merged (suc s) (suc t) b some more =
    let u : suc s - 1 ≡ s = omega arith in
    let v : suc t - 1 ≡ t = omega arith in
    let w : suc s * suc t - 1 ≡ s * t + s + t = omega arith in
    let x = ap (λ n. (suc t * b) * n) u in
    let y = ap (λ n. b * n) v in
    let z = ap (λ n. b * n) w in
    omega (arith, x, y, z)

-- two that run as one reach as far
pub reach-as_one : (outer inner : Loop) (loops : List Loop) → AllRun (outer ∷ inner ∷ loops) → AreOne outer inner → view_reach (as_one outer inner ∷ loops) ≡ view_reach (outer ∷ inner ∷ loops)
reach-as_one outer inner loops run (inl h) =
    let none : inner.times - 1 ≡ 0 = omega (arith, h.0) in
    let z = ap (λ n. inner.view_step * n) none in
    ap (λ (l : Loop). view_reach (l ∷ loops)) h.1 ∙ omega (arith, z)
reach-as_one outer inner loops run (inr (inl h)) =
    let none : outer.times - 1 ≡ 0 = omega (arith, h.0) in
    let z = ap (λ n. outer.view_step * n) none in
    let same : outer.times * inner.times ≡ inner.times = omega (arith, ap (λ n. n * inner.times) h.0) in
    let y = ap (λ n. inner.view_step * (n - 1)) same in
    ap (λ (l : Loop). view_reach (l ∷ loops)) h.1 ∙ omega (arith, y, z)
reach-as_one outer inner loops run (inr (inr h)) =
    let e = ap (λ s. s * (outer.times - 1)) h.0.view in
    let f = reach-merged outer.times inner.times inner.view_step run.0 run.1.0 in
    ap (λ (l : Loop). view_reach (l ∷ loops)) h.1 ∙ omega (arith, e, f)

some-merged : (s t : ℕ) → 0 < s → 0 < t → 0 < s * t
some-merged zero t a b = absurd (omega arith)
some-merged (suc s) zero a b = absurd (omega arith)
some-merged (suc s) (suc t) a b = omega arith

pub small-as_one : (outer inner : Loop) (loops : List Loop) (v : ℕ) → AreSmall (outer ∷ inner ∷ loops) v → AreOne outer inner → AreSmall (as_one outer inner ∷ loops) v
small-as_one outer inner loops v h how = record {
  run = run how;
  rise = rise how;
  small = let e = reach-as_one outer inner loops h.run how in subst (λ n. v + n < 4194304) (sym e) h.small;
}
  where
    merged-run : AllRun (merged outer inner ∷ loops)
    merged-run = (some-merged outer.times inner.times h.run.0 h.run.1.0, h.run.1.1)

    run : AreOne outer inner → AllRun (as_one outer inner ∷ loops)
    run (inl k) = subst (λ (l : Loop). AllRun (l ∷ loops)) (sym k.1) (h.run.0, h.run.1.1)
    run (inr (inl k)) = subst (λ (l : Loop). AllRun (l ∷ loops)) (sym k.1) merged-run
    run (inr (inr k)) = subst (λ (l : Loop). AllRun (l ∷ loops)) (sym k.1) merged-run

    rise : AreOne outer inner → ViewsRise (as_one outer inner ∷ loops)
    rise (inl k) = subst (λ (l : Loop). ViewsRise (l ∷ loops)) (sym k.1) (let r : view_reach loops < outer.view_step = omega (arith, h.rise.0) in (r, h.rise.1.1))
    rise (inr (inl k)) = subst (λ (l : Loop). ViewsRise (l ∷ loops)) (sym k.1) h.rise.1
    rise (inr (inr k)) = subst (λ (l : Loop). ViewsRise (l ∷ loops)) (sym k.1) h.rise.1

-- the loops within one, at a turn of it
pub step_small : (s t k : ℕ) → k < t → s * k ≤ s * (t - 1)
step_small s t k lt = mul-le-mul_left s (omega arith)

pub small-within : (loop : Loop) (loops : List Loop) (v k : ℕ) → AreSmall (loop ∷ loops) v → k < loop.times → AreSmall loops (v + loop.view_step * k)
small-within loop loops v k h lt =
    let s = step_small loop.view_step loop.times k lt in
    record { run = h.run.1; rise = h.rise.1; small = omega (arith, s, h.small) }

-- two that run as one stay among places
le_or : (m n : ℕ) → (m ≤ n) ⊎ (n < m)
le_or zero n = inl (omega arith)
le_or (suc m) zero = inr (omega arith)
le_or (suc m) (suc n) = elim (le_or m n) [ inl h ↦ inl (omega arith) | inr h ↦ inr (omega arith) ]

divided : (m s t : ℕ) → m < s * t → 0 < t → m / t < s
divided m s t lt some =
    let e : t * (m / t) + m % t ≡ m = omega (arith, some) in
    decided (le_or s (m / t)) e
  where
    decided : (s ≤ m / t) ⊎ (m / t < s) → t * (m / t) + m % t ≡ m → m / t < s
    decided (inl le) e = absurd (let more = mul-le-mul_left t le in omega (arith, more, e, lt))
    decided (inr below) e = below

pub stay-as_one : (outer inner : Loop) (loops : List Loop) (c : ℤ) → AllRun (outer ∷ inner ∷ loops) → AreOne outer inner → StayPlaces (outer ∷ inner ∷ loops) c → StayPlaces (as_one outer inner ∷ loops) c
stay-as_one outer inner loops c run (inl h) stay =
    subst (λ (l : Loop). StayPlaces (l ∷ loops) c) (sym h.1)
    (λ k lt. subst (StayPlaces loops) (chunk_stays (c +ℤ outer.chunk_step *ℤ pos k) inner.chunk_step) (stay k lt 0 run.1.0))
stay-as_one outer inner loops c run (inr (inl h)) stay =
    let same : outer.times * inner.times ≡ inner.times = omega (arith, ap (λ n. n * inner.times) h.0) in
    subst (λ (l : Loop). StayPlaces (l ∷ loops) c) (sym h.1)
    (λ k lt. subst (λ d. StayPlaces loops (d +ℤ inner.chunk_step *ℤ pos k)) (chunk_stays c outer.chunk_step) (stay 0 run.0 k (omega (arith, same, lt))))
stay-as_one outer inner loops c run (inr (inr h)) stay =
    subst (λ (l : Loop). StayPlaces (l ∷ loops) c) (sym h.1)
    (λ m lt.
    let some = run.1.0 in
    let q = divided m outer.times inner.times lt some in
    let r : m % inner.times < inner.times = omega (arith, some) in
    let e : inner.times * (m / inner.times) + m % inner.times ≡ m = omega (arith, some) in
    subst (StayPlaces loops)
    (chunk_place c outer.chunk_step inner.chunk_step inner.times (m / inner.times) (m % inner.times) h.0.chunk ∙ ap (λ n. c +ℤ inner.chunk_step *ℤ pos n) e)
    (stay (m / inner.times) q (m % inner.times) r))

-- joined loops reach as far, stay small and stay among places
pub reach-joined : (loops : List Loop) (outer : Loop) (v : ℕ) → AreSmall (outer ∷ loops) v → view_reach (joined outer loops) ≡ view_reach (outer ∷ loops)
reach-joined [] outer v h = refl
reach-joined (inner ∷ loops) outer v h =
    told (run_as_one outer inner) refl (reach-joined loops (as_one outer inner) v) (reach-joined loops inner (v + outer.view_step * 0) (small-within outer (inner ∷ loops) v 0 h h.run.0))
  where
    told : (b : Bool) → run_as_one outer inner ≡ b → (AreSmall (as_one outer inner ∷ loops) v → view_reach (joined (as_one outer inner) loops) ≡ view_reach (as_one outer inner ∷ loops))
        → view_reach (joined inner loops) ≡ view_reach (inner ∷ loops)
        → view_reach (cond b (joined (as_one outer inner) loops) (outer ∷ joined inner loops)) ≡ view_reach (outer ∷ inner ∷ loops)
    told true e one apart = one (small-as_one outer inner loops v h (are_one outer inner e)) ∙ reach-as_one outer inner loops h.run (are_one outer inner e)
    told false e one apart = ap (λ n. outer.view_step * (outer.times - 1) + n) apart

pub small-joined : (loops : List Loop) (outer : Loop) (v : ℕ) → AreSmall (outer ∷ loops) v → AreSmall (joined outer loops) v
small-joined [] outer v h = h
small-joined (inner ∷ loops) outer v h =
    told (run_as_one outer inner) refl (small-joined loops (as_one outer inner) v)
    (small-joined loops inner (v + outer.view_step * 0) (small-within outer (inner ∷ loops) v 0 h h.run.0))
    (reach-joined loops inner (v + outer.view_step * 0) (small-within outer (inner ∷ loops) v 0 h h.run.0))
  where
    told : (b : Bool) → run_as_one outer inner ≡ b → (AreSmall (as_one outer inner ∷ loops) v → AreSmall (joined (as_one outer inner) loops) v)
        → AreSmall (joined inner loops) (v + outer.view_step * 0) → view_reach (joined inner loops) ≡ view_reach (inner ∷ loops)
        → AreSmall (cond b (joined (as_one outer inner) loops) (outer ∷ joined inner loops)) v
    told true e one apart reach = one (small-as_one outer inner loops v h (are_one outer inner e))
    told false e one apart reach = record {
      run = (h.run.0, apart.run);
      rise = (subst (λ n. n < outer.view_step) (sym reach) h.rise.0, apart.rise);
      small = subst (λ n. v + (outer.view_step * (outer.times - 1) + n) < 4194304) (sym reach) h.small;
    }

pub stay-joined : (loops : List Loop) (outer : Loop) (c : ℤ) → AllRun (outer ∷ loops) → StayPlaces (outer ∷ loops) c → StayPlaces (joined outer loops) c
stay-joined [] outer c run stay = stay
stay-joined (inner ∷ loops) outer c run stay =
    told (run_as_one outer inner) refl (stay-joined loops (as_one outer inner) c) (λ d. stay-joined loops inner d run.1)
  where
    as_one-run : AreOne outer inner → AllRun (as_one outer inner ∷ loops)
    as_one-run (inl k) = subst (λ (l : Loop). AllRun (l ∷ loops)) (sym k.1) (run.0, run.1.1)
    as_one-run (inr (inl k)) = subst (λ (l : Loop). AllRun (l ∷ loops)) (sym k.1) (some-merged outer.times inner.times run.0 run.1.0, run.1.1)
    as_one-run (inr (inr k)) = subst (λ (l : Loop). AllRun (l ∷ loops)) (sym k.1) (some-merged outer.times inner.times run.0 run.1.0, run.1.1)

    told : (b : Bool) → run_as_one outer inner ≡ b → (AllRun (as_one outer inner ∷ loops) → StayPlaces (as_one outer inner ∷ loops) c → StayPlaces (joined (as_one outer inner) loops) c)
        → ((d : ℤ) → StayPlaces (inner ∷ loops) d → StayPlaces (joined inner loops) d)
        → StayPlaces (cond b (joined (as_one outer inner) loops) (outer ∷ joined inner loops)) c
    told true e one apart = one (as_one-run (are_one outer inner e)) (stay-as_one outer inner loops c run (are_one outer inner e) stay)
    told false e one apart = λ k lt. apart (c +ℤ outer.chunk_step *ℤ pos k) (stay k lt)
