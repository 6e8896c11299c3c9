-- Nested loops, and two that run as one.
use Rattle.std.proofs.Common.{◌≡◌, ◌∙◌, ℕ, zero, suc, ◌+◌, ◌*◌, ℤ, pos, ◌+ℤ◌, ◌*ℤ◌, Bool, true, false, cond, List, [], ◌∷◌, ◌++◌, ◌⊎◌, inl, inr, refl, sym, ap, arith, eqb-true}
use Rattle.std.specs.Prelude.{◌==◌, ◌||◌}
use Rattle.std.specs.List.{flat_map, range_with_len}
use Rattle.std.specs.Ordering.{int_eq}
use Rattle.std.proofs.Math.IntN.{*ℤ-zero, *ℤ_comm, pos-*ℤ-pos}
use Rattle.std.proofs.lemmas.Int.{ints}
use Rattle.std.proofs.lemmas.List.{append-nil}
use Rattle.std.proofs.lemmas.List.Concat.{flat_map-append}
use Rattle.std.proofs.lemmas.Bool.Decides.{Decides-int_eq}
use Rattle.index_transform.proofs.Laws.{multiplied_out}
use Rattle.strided_runs.specs.declared.lines.Loop.{Loop}
use Rattle.strided_runs.specs.Loops.{looped}
use Rattle.strided_runs.specs.Loops.{fits, run_as_one, as_one, joined}
use Rattle.cells.specs.Runs.{Pair}
use Rattle.strided_runs.proofs.RangeLaws.{range-split}
use Rattle.cells.proofs.Laws.{both}

-- numbers that begin later
shifted : (f : ℕ → List Pair) (d n e : ℕ) → flat_map (λ j. f (d + j)) (range_with_len e n) ≡ flat_map f (range_with_len (d + e) n)
shifted f d zero e = refl
shifted f d (suc n) e =
    let up : d + (e + 1) ≡ (d + e) + 1 = omega arith in
    ap (λ ps. f (d + e) ++ ps) (shifted f d n (e + 1) ∙ ap (λ k. flat_map f (range_with_len k n)) up)

-- groups of so many numbers, one after another
grouped : (f : ℕ → List Pair) (t n k : ℕ) → flat_map (λ i. flat_map f (range_with_len (t * i) t)) (range_with_len k n) ≡ flat_map f (range_with_len (t * k) (n * t))
grouped f t zero k = let none : 0 ≡ 0 * t = omega arith in ap (λ m. flat_map f (range_with_len (t * k) m)) none
grouped f t (suc n) k =
    let more : t + n * t ≡ suc n * t = omega arith in
    let next : t * (k + 1) ≡ t * k + t = omega arith in
    ap (λ ps. flat_map f (range_with_len (t * k) t) ++ ps) (grouped f t n (k + 1) ∙ ap (λ j. flat_map f (range_with_len j (n * t))) next)
    ∙ sym (flat_map-append f (range_with_len (t * k) t) (range_with_len (t * k + t) (n * t)))
    ∙ sym (ap (flat_map f) (range-split t (n * t) (t * k)))
    ∙ ap (λ m. flat_map f (range_with_len (t * k) m)) more

-- the outer loop goes on where the inner one ends
pub record Fits (outer inner : Loop) : Type 0 where
  pub view : outer.view_step ≡ inner.times * inner.view_step
  pub chunk : outer.chunk_step ≡ pos inner.times *ℤ inner.chunk_step

view_place : (v a b t k j : ℕ) → a ≡ t * b → (v + a * k) + b * j ≡ v + b * (t * k + j)
view_place v a b t k j e = let f : a * k ≡ (t * b) * k = ap (λ s. s * k) e in omega (arith, f)

turned : (x y z : ℤ) → (x +ℤ y) +ℤ z ≡ (x +ℤ z) +ℤ y
turned x y z = omega (arith, ints)

pub chunk_place : (c a b : ℤ) (t k j : ℕ) → a ≡ pos t *ℤ b → (c +ℤ a *ℤ pos k) +ℤ b *ℤ pos j ≡ c +ℤ b *ℤ pos (t * k + j)
chunk_place c a b t k j e =
    let s : a ≡ b *ℤ pos t = e ∙ *ℤ_comm (pos t) b in
    let p = pos-*ℤ-pos t k in
    let n : pos j +ℤ pos t *ℤ pos k ≡ pos (t * k + j) = omega (arith, ints, p) in
    turned c (a *ℤ pos k) (b *ℤ pos j)
    ∙ ap (λ z. (c +ℤ b *ℤ pos j) +ℤ z *ℤ pos k) s
    ∙ multiplied_out c b (pos j) (pos t) (pos k)
    ∙ ap (λ z. c +ℤ b *ℤ z) n

abbrev pub merged : Loop → Loop → Loop
merged outer inner = record { times = outer.times * inner.times; view_step = inner.view_step; chunk_step = inner.chunk_step }

module _ (at : ℕ → ℤ → List Pair) (v : ℕ) (c : ℤ) (outer inner : Loop) (h : Fits outer inner) where
  abbrev step : ℕ → List Pair
  step m = at (v + inner.view_step * m) (c +ℤ inner.chunk_step *ℤ pos m)

  abbrev turn : ℕ → ℕ → List Pair
  turn k j = at ((v + outer.view_step * k) + inner.view_step * j) ((c +ℤ outer.chunk_step *ℤ pos k) +ℤ inner.chunk_step *ℤ pos j)

  turn-is : (k j : ℕ) → turn k j ≡ step (inner.times * k + j)
  turn-is k j = λ i. at (view_place v outer.view_step inner.view_step inner.times k j h.view i) (chunk_place c outer.chunk_step inner.chunk_step inner.times k j h.chunk i)

  turns : (k : ℕ) → flat_map (turn k) (range_with_len 0 inner.times) ≡ flat_map step (range_with_len (inner.times * k) inner.times)
  turns k =
      let same : inner.times * k + 0 ≡ inner.times * k = omega arith in
      ap (λ (f : ℕ → List Pair). flat_map f (range_with_len 0 inner.times)) (λ i j. turn-is k j i)
      ∙ shifted step (inner.times * k) inner.times 0
      ∙ ap (λ n. flat_map step (range_with_len n inner.times)) same

  pub two_loops : flat_map (λ k. flat_map (turn k) (range_with_len 0 inner.times)) (range_with_len 0 outer.times) ≡ flat_map step (range_with_len 0 (outer.times * inner.times))
  two_loops =
      let none : inner.times * 0 ≡ 0 = omega arith in
      ap (λ (f : ℕ → List Pair). flat_map f (range_with_len 0 outer.times)) (λ i k. turns k i)
      ∙ grouped step inner.times outer.times 0
      ∙ ap (λ n. flat_map step (range_with_len n (outer.times * inner.times))) none

-- a first step leads nowhere
pub stays : (v s : ℕ) → v + s * 0 ≡ v
stays v s = omega arith

pub chunk_stays : (c s : ℤ) → c +ℤ s *ℤ pos 0 ≡ c
chunk_stays c s = let z = *ℤ-zero s in omega (arith, ints, z)

-- a loop that runs once
once : (loop : Loop) (loops : List Loop) (v : ℕ) (c : ℤ) → loop.times ≡ 1 → looped (loop ∷ loops) v c ≡ looped loops v c
once loop loops v c e =
    ap (λ n. flat_map (λ k. looped loops (v + loop.view_step * k) (c +ℤ loop.chunk_step *ℤ pos k)) (range_with_len 0 n)) e
    ∙ append-nil (looped loops (v + loop.view_step * 0) (c +ℤ loop.chunk_step *ℤ pos 0))
    ∙ (λ i. looped loops (stays v loop.view_step i) (chunk_stays c loop.chunk_step i))

-- how an outer and an inner loop can run as one
abbrev pub AreOne : Loop → Loop → Type 0
AreOne outer inner =
    ((inner.times ≡ 1) × (as_one outer inner ≡ outer))
    ⊎ (((outer.times ≡ 1) × (as_one outer inner ≡ merged outer inner)) ⊎ (Fits outer inner × (as_one outer inner ≡ merged outer inner)))

fits-told : (outer inner : Loop) → fits outer inner ≡ true → Fits outer inner
fits-told outer inner e =
    let parts = both (outer.view_step == inner.times * inner.view_step) (int_eq outer.chunk_step (pos inner.times *ℤ inner.chunk_step)) e in
    record {
      view = eqb-true outer.view_step (inner.times * inner.view_step) parts.0;
      chunk = (Decides-int_eq outer.chunk_step (pos inner.times *ℤ inner.chunk_step)).0 parts.1;
    }

pub are_one : (outer inner : Loop) → run_as_one outer inner ≡ true → AreOne outer inner
are_one outer inner e = by_inner (inner.times == 1) refl where
  by_outer : (b : Bool) → (outer.times == 1) ≡ b → (b || fits outer inner) ≡ true → as_one outer inner ≡ merged outer inner
      → ((outer.times ≡ 1) × (as_one outer inner ≡ merged outer inner)) ⊎ (Fits outer inner × (as_one outer inner ≡ merged outer inner))
  by_outer true is e is_merged = inl (eqb-true outer.times 1 is, is_merged)
  by_outer false is e is_merged = inr (fits-told outer inner e, is_merged)

  by_inner : (b : Bool) → (inner.times == 1) ≡ b → AreOne outer inner
  by_inner true is = inl (eqb-true inner.times 1 is, ap (λ b. cond b outer (merged outer inner)) is)
  by_inner false is =
      inr (by_outer (outer.times == 1) refl (sym (ap (λ b. b || (outer.times == 1 || fits outer inner)) is) ∙ e) (ap (λ b. cond b outer (merged outer inner)) is))

-- two that run as one have the same pairs
pub looped-as_one : (outer inner : Loop) (loops : List Loop) (v : ℕ) (c : ℤ) → AreOne outer inner → looped (outer ∷ inner ∷ loops) v c ≡ looped (as_one outer inner ∷ loops) v c
looped-as_one outer inner loops v c (inl h) =
    ap (λ (f : ℕ → List Pair). flat_map f (range_with_len 0 outer.times)) (λ i k. once inner loops (v + outer.view_step * k) (c +ℤ outer.chunk_step *ℤ pos k) h.0 i)
    ∙ ap (λ (l : Loop). looped (l ∷ loops) v c) (sym h.1)
looped-as_one outer inner loops v c (inr (inl h)) =
    let same : inner.times ≡ outer.times * inner.times = omega (arith, ap (λ n. n * inner.times) h.0) in
    once outer (inner ∷ loops) v c h.0
    ∙ ap (λ n. let l : Loop = record { times = n; view_step = inner.view_step; chunk_step = inner.chunk_step } in looped (l ∷ loops) v c) same
    ∙ ap (λ (l : Loop). looped (l ∷ loops) v c) (sym h.1)
looped-as_one outer inner loops v c (inr (inr h)) =
    two_loops (looped loops) v c outer inner h.0
    ∙ ap (λ (l : Loop). looped (l ∷ loops) v c) (sym h.1)

-- joined loops have the same pairs
pub looped-joined : (loops : List Loop) (outer : Loop) (v : ℕ) (c : ℤ) → looped (joined outer loops) v c ≡ looped (outer ∷ loops) v c
looped-joined [] outer v c = refl
looped-joined (inner ∷ loops) outer v c = told (run_as_one outer inner) refl (looped-joined loops (as_one outer inner) v c) (λ w d. looped-joined loops inner w d) where
  told : (b : Bool) → run_as_one outer inner ≡ b → looped (joined (as_one outer inner) loops) v c ≡ looped (as_one outer inner ∷ loops) v c
      → ((w : ℕ) (d : ℤ) → looped (joined inner loops) w d ≡ looped (inner ∷ loops) w d)
      → looped (cond b (joined (as_one outer inner) loops) (outer ∷ joined inner loops)) v c ≡ looped (outer ∷ inner ∷ loops) v c
  told true e one apart = one ∙ sym (looped-as_one outer inner loops v c (are_one outer inner e))
  told false e one apart =
      ap (λ (f : ℕ → List Pair). flat_map f (range_with_len 0 outer.times)) (λ i k. apart (v + outer.view_step * k) (c +ℤ outer.chunk_step *ℤ pos k) i)
