-- Runs that grow by a whole line.
use Rattle.std.proofs.Common.{◌≡◌, ◌∙◌, ℕ, zero, suc, ◌+◌, ◌-◌, ◌*◌, ◌<◌, ◌≤◌, ℤ, pos, ◌+ℤ◌, ◌-ℤ◌, ◌*ℤ◌, ◌≤ℤ◌, unsigned_abs, Bool, true, false, cond, [], ◌∷◌, ◌++◌, map, ◌⊎◌, inl, inr, refl, sym, ap, subst, arith, eqb-true, eq-eqb}
use Rattle.std.specs.Prelude.{◌==◌, ◌&&◌, ◌||◌, min}
use Rattle.std.specs.List.{fold, range_with_len}
use Rattle.std.specs.Ordering.{int_eq}
use Rattle.std.proofs.Math.IntN.{*ℤ_comm, *ℤ-zero}
use Rattle.std.proofs.Math.Nat.{mul-add}
use Rattle.std.proofs.lemmas.List.{map-append}
use Rattle.std.proofs.lemmas.Int.{ints}
use Rattle.std.proofs.lemmas.Bool.Decides.{Decides-int_eq, nat_tests}
use Rattle.std.proofs.lemmas.List.Sums.{fold-append}
use Rattle.index_intervals.proofs.Laws.{suc-*ℤ, int_eq-true}
use Rattle.cells.specs.declared.run.Run.{Run}
use Rattle.strided_runs.proofs.RangeLaws.{range-split}
use Rattle.cells.specs.Runs.{Pair}
use Rattle.strided_runs.specs.Runs.{run_of_one, goes_on, longer}
use Rattle.strided_runs.specs.Growing.{Grown, grown}
use Rattle.strided_runs.specs.Loops.{pair_on, pairs_on}
use Rattle.cells.proofs.Laws.{both}

-- one time more
pub times_more : (s : ℤ) (k : ℕ) → s *ℤ pos (k + 1) ≡ s *ℤ pos k +ℤ s
times_more s k = *ℤ_comm s (pos (k + 1)) ∙ suc-*ℤ (pos k) s ∙ ap (λ z. z +ℤ s) (*ℤ_comm (pos k) s)

pub pos_abs : (z : ℤ) → pos 0 ≤ℤ z → pos (unsigned_abs z) ≡ z
pos_abs z h = omega (arith, ints)

int_eq-same : (x y : ℤ) → int_eq x y ≡ true → x ≡ y
int_eq-same x y e = (Decides-int_eq x y).0 e

one_test : (n : ℕ) → 2 ≤ n → (n == 1) ≡ false
one_test n h = grind (arith, nat_tests)

-- what a pair that goes on with a run of two or more says
pub follows : (r : Run) (q : Pair) → 2 ≤ r.len → goes_on r q ≡ true → (q.view ≡ r.view + r.view_step * r.len) × (pos q.chunk ≡ pos r.chunk +ℤ r.chunk_step *ℤ pos r.len)
follows r q two e =
    let rest = sym (ap (λ b. b || (q.view == r.view + r.view_step * r.len && int_eq (pos q.chunk) (pos r.chunk +ℤ r.chunk_step *ℤ pos r.len))) (one_test r.len two)) ∙ e in
    let parts = both (q.view == r.view + r.view_step * r.len) (int_eq (pos q.chunk) (pos r.chunk +ℤ r.chunk_step *ℤ pos r.len)) rest in
    (eqb-true q.view (r.view + r.view_step * r.len) parts.0, int_eq-same (pos q.chunk) (pos r.chunk +ℤ r.chunk_step *ℤ pos r.len) parts.1)

goes_on-next : (r : Run) (q : Pair) → 2 ≤ r.len → q.view ≡ r.view + r.view_step * r.len → pos q.chunk ≡ pos r.chunk +ℤ r.chunk_step *ℤ pos r.len → goes_on r q ≡ true
goes_on-next r q two v c =
    ap (λ b. b || (q.view == r.view + r.view_step * r.len && int_eq (pos q.chunk) (pos r.chunk +ℤ r.chunk_step *ℤ pos r.len))) (one_test r.len two)
    ∙ ap (λ b. b && int_eq (pos q.chunk) (pos r.chunk +ℤ r.chunk_step *ℤ pos r.len)) (eq-eqb q.view (r.view + r.view_step * r.len) v)
    ∙ int_eq-true (pos q.chunk) (pos r.chunk +ℤ r.chunk_step *ℤ pos r.len) c

pub longer-more : (r : Run) (q : Pair) → 2 ≤ r.len → longer r q ≡ record r { len = r.len + 1 }
longer-more r q two =
    ap (λ b. cond b (record { view = r.view; view_step = q.view - r.view; chunk = r.chunk; chunk_step = pos q.chunk -ℤ pos r.chunk; len = 2 }) (record r { len = r.len + 1 }))
    (one_test r.len two)

-- a run of one pair
record IsSingle (r : Run) (q : Pair) : Type 0 where
  len : r.len ≡ 1
  view : r.view ≡ q.view
  chunk : r.chunk ≡ q.chunk

-- a run of more that ends with a pair
record EndsWith (r : Run) (q : Pair) : Type 0 where
  two : 2 ≤ r.len
  view : r.view + r.view_step * r.len ≡ q.view + r.view_step
  chunk : pos r.chunk +ℤ r.chunk_step *ℤ pos r.len ≡ pos q.chunk +ℤ r.chunk_step

single-goes_on : (r : Run) (q p : Pair) → IsSingle r q → goes_on r p ≡ true
single-goes_on r q p s =
    ap (λ b. b || (p.view == r.view + r.view_step * r.len && int_eq (pos p.chunk) (pos r.chunk +ℤ r.chunk_step *ℤ pos r.len))) (eq-eqb r.len 1 s.len)

-- the run of two pairs
abbrev pub second : Run → Pair → Run
second r p = record { view = r.view; view_step = p.view - r.view; chunk = r.chunk; chunk_step = pos p.chunk -ℤ pos r.chunk; len = 2 }

pub first-longer : (r : Run) (p : Pair) → r.len ≡ 1 → longer r p ≡ second r p
first-longer r p e = ap (λ b. cond b (second r p) (record r { len = r.len + 1 })) (eq-eqb r.len 1 e)

pub grown-on : (g : Grown) (p : Pair) → goes_on g.run p ≡ true → grown g p ≡ record { done = g.done; run = longer g.run p }
grown-on g p e = ap (λ b. cond b (record { done = g.done; run = longer g.run p }) (record { done = g.done ++ g.run ∷ []; run = run_of_one p })) e

grown-off : (g : Grown) (p : Pair) → goes_on g.run p ≡ false → grown g p ≡ record { done = g.done ++ g.run ∷ []; run = run_of_one p }
grown-off g p e = ap (λ b. cond b (record { done = g.done; run = longer g.run p }) (record { done = g.done ++ g.run ∷ []; run = run_of_one p })) e

three_cases : (n : ℕ) → (n ≡ 0) ⊎ ((n ≡ 1) ⊎ (2 ≤ n))
three_cases zero = inl refl
three_cases (suc zero) = inr (inl refl)
three_cases (suc (suc n)) = inr (inr (omega arith))

le_or : (m n : ℕ) → (m ≤ n) ⊎ (n ≤ m)
le_or zero n = inl (omega arith)
le_or (suc m) zero = inr (omega arith)
le_or (suc m) (suc n) = elim (le_or m n) [ inl h ↦ inl (omega arith) | inr h ↦ inr (omega arith) ]

true_or_false : (b : Bool) → (b ≡ true) ⊎ (b ≡ false)
true_or_false true = inl refl
true_or_false false = inr refl

-- after one pair the run ends with it
doubled : (a b : ℕ) → a ≤ b → a + (b - a) * 2 ≡ b + (b - a)
doubled a b h = omega arith

doubled_ints : (a b : ℤ) → a +ℤ (b -ℤ a) *ℤ pos 2 ≡ b +ℤ (b -ℤ a)
doubled_ints a b = omega (arith, ints)

ends-second : (r : Run) (p : Pair) → r.view ≤ p.view → EndsWith (second r p) p
ends-second r p before = record { two = omega arith; view = doubled r.view p.view before; chunk = doubled_ints (pos r.chunk) (pos p.chunk) }

times-suc : (m n : ℕ) → m * (n + 1) ≡ m * n + m
times-suc m n = mul-add m n 1 ∙ (let e : m * 1 ≡ m = omega arith in ap (λ k. m * n + k) e)

ends-longer : (r : Run) (p : Pair) → 2 ≤ r.len → goes_on r p ≡ true → EndsWith (let l : Run = record r { len = r.len + 1 } in l) p
ends-longer r p two e =
    let f = follows r p two e in
    let v = times-suc r.view_step r.len in
    let c = times_more r.chunk_step r.len in
    record { two = omega (arith, two); view = omega (arith, v, f.0); chunk = omega (arith, ints, c, f.1) }

-- a run without pairs begins anew
empty-longer : (r : Run) (p : Pair) → r.len ≡ 0 → goes_on r p ≡ true → IsSingle (longer r p) p
empty-longer r p none e =
    let zero_test : (r.len == 1) ≡ false = grind (arith, nat_tests) in
    let rest = sym (ap (λ b. b || (p.view == r.view + r.view_step * r.len && int_eq (pos p.chunk) (pos r.chunk +ℤ r.chunk_step *ℤ pos r.len))) zero_test) ∙ e in
    let parts = both (p.view == r.view + r.view_step * r.len) (int_eq (pos p.chunk) (pos r.chunk +ℤ r.chunk_step *ℤ pos r.len)) rest in
    let v : p.view ≡ r.view + r.view_step * 0 = eqb-true p.view (r.view + r.view_step * r.len) parts.0 ∙ ap (λ n. r.view + r.view_step * n) none in
    let c : pos p.chunk ≡ pos r.chunk +ℤ r.chunk_step *ℤ pos 0 = int_eq-same (pos p.chunk) (pos r.chunk +ℤ r.chunk_step *ℤ pos r.len) parts.1 ∙ ap (λ n. pos r.chunk +ℤ r.chunk_step *ℤ pos n) none in
    let z : r.chunk_step *ℤ pos 0 ≡ pos 0 = *ℤ-zero r.chunk_step in
    let same : r.chunk ≡ p.chunk = omega (arith, ints, c, z) in
    let seen : r.view ≡ p.view = omega (arith, v) in
    let is = ap (λ b. cond b (second r p) (record r { len = r.len + 1 })) zero_test in
    subst (λ (l : Run). IsSingle l p) (sym is) (record { len = omega (arith, none); view = seen; chunk = same })

-- after a pair the run ends with it
after : (g : Grown) (p : Pair) → g.run.view ≤ p.view → IsSingle (grown g p).run p ⊎ EndsWith (grown g p).run p
after g p before =
    elim (true_or_false (goes_on g.run p)) [
      | inr off ↦ inl (subst (λ (l : Grown). IsSingle l.run p) (sym (grown-off g p off)) (record { len = refl; view = refl; chunk = refl }))
      | inl on ↦
          let here = grown-on g p on in
          elim (three_cases g.run.len) [
            | inl none ↦ inl (subst (λ (l : Grown). IsSingle l.run p) (sym here) (empty-longer g.run p none on))
            | inr more ↦
                elim more [
                  | inl one ↦ inr (subst (λ (l : Grown). EndsWith l.run p) (sym here) (subst (λ (r : Run). EndsWith r p) (sym (first-longer g.run p one)) (ends-second g.run p before)))
                  | inr two ↦ inr (subst (λ (l : Grown). EndsWith l.run p) (sym here) (subst (λ (r : Run). EndsWith r p) (sym (longer-more g.run p two)) (ends-longer g.run p two on)))
                ]
          ]
    ]

-- the last run so much longer
abbrev pub lengthened : ℕ → Grown → Grown
lengthened n g = record { done = g.done; run = record g.run { len = g.run.len + n } }

-- a line's pairs
module _ (view view_step chunk : ℕ) (step : ℤ) where
  abbrev p : ℕ → Pair
  p k = pair_on view view_step chunk step k

  abbrev place : ℕ → ℤ
  place k = pos chunk +ℤ step *ℤ pos k

  abbrev pub IsFrom : ℕ → ℕ → Type 0
  IsFrom from n = (k : ℕ) → k < n → pos 0 ≤ℤ place (from + k)

  place-more : (k : ℕ) → place (k + 1) ≡ place k +ℤ step
  place-more k = let e = times_more step k in omega (arith, ints, e)

  -- a run that goes by the line's steps, and on with this pair of it
  pub record IsLong (r : Run) (k : ℕ) : Type 0 where
    pub two : 2 ≤ r.len
    pub one : r.view_step ≡ view_step
    pub by : r.chunk_step ≡ step
    pub view_next : r.view + view_step * r.len ≡ view + view_step * k
    pub chunk_next : pos r.chunk +ℤ step *ℤ pos r.len ≡ place k

  long-goes_on : (r : Run) (k : ℕ) → pos 0 ≤ℤ place k → IsLong r k → goes_on r (p k) ≡ true
  long-goes_on r k from h =
      let times : r.view_step * r.len ≡ view_step * r.len = ap (λ n. n * r.len) h.one in
      goes_on-next r (p k) h.two (omega (arith, times, h.view_next)) (pos_abs (place k) from ∙ sym h.chunk_next ∙ ap (λ s. pos r.chunk +ℤ s *ℤ pos r.len) (sym h.by))

  long-more : (r : Run) (k : ℕ) → IsLong r k → IsLong (let l : Run = record r { len = r.len + 1 } in l) (k + 1)
  long-more r k h = record {
    two = omega (arith, h.two);
    one = h.one;
    by = h.by;
    view_next = omega (arith, h.view_next);
    chunk_next = let e = times_more step r.len in let f = place-more k in omega (arith, ints, e, f, h.chunk_next);
  }

  -- the pairs that follow by the steps make the run longer
  pub bulk : (n k : ℕ) (g : Grown) → IsLong g.run k → IsFrom k n
      → fold grown g (pairs_on view view_step chunk step k n) ≡ record { done = g.done; run = record g.run { len = g.run.len + n } }
  bulk zero k g h from = let e : g.run.len ≡ g.run.len + 0 = omega arith in ap (λ n. let l : Grown = record { done = g.done; run = record g.run { len = n } } in l) e
  bulk (suc n) k g h from =
      let on = long-goes_on g.run k (subst (λ j. pos 0 ≤ℤ place j) (omega arith) (from 0 (omega arith))) h in
      let here = grown-on g (p k) on ∙ ap (λ (r : Run). let l : Grown = record { done = g.done; run = r } in l) (longer-more g.run (p k) h.two) in
      let rest = bulk n (k + 1) (record { done = g.done; run = record g.run { len = g.run.len + 1 } }) (long-more g.run k h) (λ j lt. subst (λ i. pos 0 ≤ℤ place i) (omega arith) (from (suc j) (omega arith))) in
      let e : (g.run.len + 1) + n ≡ g.run.len + suc n = omega arith in
      ap (λ (l : Grown). fold grown l (pairs_on view view_step chunk step (k + 1) n)) here ∙ rest ∙ ap (λ m. let l : Grown = record { done = g.done; run = record g.run { len = m } } in l) e

  -- after two pairs of the line the run is one of the second, or goes by the line's steps
  abbrev AfterTwo : Run → ℕ → Type 0
  AfterTwo r k = IsSingle r (p k) ⊎ IsLong r (k + 1)

  long-second : (r : Run) (k : ℕ) → pos 0 ≤ℤ place k → pos 0 ≤ℤ place (k + 1) → IsSingle r (p k) → IsLong (second r (p (k + 1))) (k + 2)
  long-second r k from next s =
      let a : pos r.chunk ≡ place k = ap pos s.chunk ∙ pos_abs (place k) from in
      let b = pos_abs (place (k + 1)) next in
      let c = place-more k in
      let two_is : (k + 1) + 1 ≡ k + 2 = omega arith in
      let d = place-more (k + 1) ∙ refl in
      let e : place ((k + 1) + 1) ≡ place (k + 2) = ap place two_is in
      record {
        two = omega arith;
        one = omega (arith, s.view);
        by = omega (arith, ints, a, b, c);
        view_next = omega (arith, s.view);
        chunk_next = let t : step *ℤ pos 2 ≡ step +ℤ step = omega (arith, ints) in omega (arith, ints, a, c, d, e, t);
      }

  long-ends : (r : Run) (k : ℕ) → pos 0 ≤ℤ place k → pos 0 ≤ℤ place (k + 1) → EndsWith r (p k) → goes_on r (p (k + 1)) ≡ true → IsLong (let l : Run = record r { len = r.len + 1 } in l) (k + 2)
  long-ends r k from next h on =
      let f = follows r (p (k + 1)) h.two on in
      let a = pos_abs (place k) from in
      let b = pos_abs (place (k + 1)) next in
      let c = place-more k in
      let one : r.view_step ≡ view_step = omega (arith, h.view, f.0) in
      let by : r.chunk_step ≡ step = omega (arith, ints, h.chunk, f.1, a, b, c) in
      let times : r.view_step * r.len ≡ view_step * r.len = ap (λ n. n * r.len) one in
      let by_times : r.chunk_step *ℤ pos r.len ≡ step *ℤ pos r.len = ap (λ s. s *ℤ pos r.len) by in
      let two_is : (k + 1) + 1 ≡ k + 2 = omega arith in
      let d = place-more (k + 1) in
      let e : place ((k + 1) + 1) ≡ place (k + 2) = ap place two_is in
      let t = times_more step r.len in
      record {
        two = omega (arith, h.two);
        one = one;
        by = by;
        view_next = omega (arith, f.0, times);
        chunk_next = omega (arith, ints, f.1, b, by_times, d, e, t);
      }

  second_pair : (g : Grown) (k : ℕ) → pos 0 ≤ℤ place k → pos 0 ≤ℤ place (k + 1) → IsSingle g.run (p k) ⊎ EndsWith g.run (p k) → AfterTwo (grown g (p (k + 1))).run (k + 1)
  second_pair g k from next (inl s) =
      let here = grown-on g (p (k + 1)) (single-goes_on g.run (p k) (p (k + 1)) s) ∙ ap (λ (r : Run). let l : Grown = record { done = g.done; run = r } in l) (first-longer g.run (p (k + 1)) s.len) in
      let two_is : k + 2 ≡ (k + 1) + 1 = omega arith in
      inr (subst (λ (l : Grown). IsLong l.run ((k + 1) + 1)) (sym here) (subst (IsLong (second g.run (p (k + 1)))) two_is (long-second g.run k from next s)))
  second_pair g k from next (inr h) =
      elim (true_or_false (goes_on g.run (p (k + 1)))) [
        | inr off ↦ inl (subst (λ (l : Grown). IsSingle l.run (p (k + 1))) (sym (grown-off g (p (k + 1)) off)) (record { len = refl; view = refl; chunk = refl }))
        | inl on ↦
            let here = grown-on g (p (k + 1)) on ∙ ap (λ (r : Run). let l : Grown = record { done = g.done; run = r } in l) (longer-more g.run (p (k + 1)) h.two) in
            let two_is : k + 2 ≡ (k + 1) + 1 = omega arith in
            inr (subst (λ (l : Grown). IsLong l.run ((k + 1) + 1)) (sym here) (subst (IsLong (let r : Run = record g.run { len = g.run.len + 1 } in r)) two_is (long-ends g.run k from next h on)))
      ]

  -- after three it does
  third_pair : (g : Grown) (k : ℕ) → pos 0 ≤ℤ place k → pos 0 ≤ℤ place (k + 1) → AfterTwo g.run k → IsLong (grown g (p (k + 1))).run (k + 2)
  third_pair g k from next (inl s) =
      let here = grown-on g (p (k + 1)) (single-goes_on g.run (p k) (p (k + 1)) s) ∙ ap (λ (r : Run). let l : Grown = record { done = g.done; run = r } in l) (first-longer g.run (p (k + 1)) s.len) in
      subst (λ (l : Grown). IsLong l.run (k + 2)) (sym here) (long-second g.run k from next s)
  third_pair g k from next (inr h) =
      let here = grown-on g (p (k + 1)) (long-goes_on g.run (k + 1) next h) ∙ ap (λ (r : Run). let l : Grown = record { done = g.done; run = r } in l) (longer-more g.run (p (k + 1)) h.two) in
      let two_is : (k + 1) + 1 ≡ k + 2 = omega arith in
      subst (λ (l : Grown). IsLong l.run (k + 2)) (sym here) (subst (IsLong (let r : Run = record g.run { len = g.run.len + 1 } in r)) two_is (long-more g.run (k + 1) h))

  abbrev three : Grown → ℕ → Grown
  three g k = grown (grown (grown g (p k)) (p (k + 1))) (p (k + 2))

  long-three : (g : Grown) (k : ℕ) → g.run.view ≤ view + view_step * k → IsFrom k 3 → IsLong (three g k).run (k + 3)
  long-three g k before from =
      let a : pos 0 ≤ℤ place k = subst (λ j. pos 0 ≤ℤ place j) (omega arith) (from 0 (omega arith)) in
      let b : pos 0 ≤ℤ place (k + 1) = from 1 (omega arith) in
      let c : pos 0 ≤ℤ place ((k + 1) + 1) = subst (λ j. pos 0 ≤ℤ place j) (omega arith) (from 2 (omega arith)) in
      let one = after g (p k) before in
      let two = second_pair (grown g (p k)) k a b one in
      let last = third_pair (grown (grown g (p k)) (p (k + 1))) (k + 1) b c two in
      let e : (k + 1) + 1 ≡ k + 2 = omega arith in
      let f : (k + 1) + 2 ≡ k + 3 = omega arith in
      subst (λ j. IsLong (grown (grown (grown g (p k)) (p (k + 1))) (p j)).run (k + 3)) e (subst (IsLong (grown (grown (grown g (p k)) (p (k + 1))) (p ((k + 1) + 1))).run) f last)

  three-is : (g : Grown) (k : ℕ) → fold grown g (pairs_on view view_step chunk step k 3) ≡ three g k
  three-is g k =
      let e : (k + 1) + 1 ≡ k + 2 = omega arith in
      ap (λ j. grown (grown (grown g (p k)) (p (k + 1))) (p j)) e

  pub pairs-split : (m n k : ℕ) → pairs_on view view_step chunk step k (m + n) ≡ pairs_on view view_step chunk step k m ++ pairs_on view view_step chunk step (k + m) n
  pairs-split m n k = ap (map p) (range-split m n k) ∙ map-append p (range_with_len k m) (range_with_len (k + m) n)

  -- three pairs, and the others at once
  pub line-grown : (g : Grown) (k n : ℕ) → g.run.view ≤ view + view_step * k → IsFrom k (3 + n)
      → fold grown g (pairs_on view view_step chunk step k (3 + n))
      ≡ (let t = fold grown g (pairs_on view view_step chunk step k 3) in record { done = t.done; run = record t.run { len = t.run.len + n } })
  line-grown g k n before from =
      let t = fold grown g (pairs_on view view_step chunk step k 3) in
      let long : IsLong t.run (k + 3) = subst (λ (l : Grown). IsLong l.run (k + 3)) (sym (three-is g k)) (long-three g k before (λ j lt. from j (omega arith))) in
      ap (fold grown g) (pairs-split 3 n k)
      ∙ fold-append grown g (pairs_on view view_step chunk step k 3) (pairs_on view view_step chunk step (k + 3) n)
      ∙ bulk n (k + 3) t long (λ j lt. subst (λ i. pos 0 ≤ℤ place i) (omega arith) (from (3 + j) (omega arith)))

  -- one pair more
  pub line-more : (g h : Grown) (k : ℕ) (q : Pair) → g ≡ fold grown h (pairs_on view view_step chunk step 0 k) → q ≡ p k
      → grown g q ≡ fold grown h (pairs_on view view_step chunk step 0 (k + 1))
  line-more g h k q is same =
      let f : 0 + k ≡ k = omega arith in
      (λ i. grown (is i) (same i))
      ∙ sym (ap (fold grown h) (pairs-split k 1 0)
      ∙ fold-append grown h (pairs_on view view_step chunk step 0 k) (pairs_on view view_step chunk step (0 + k) 1)
      ∙ ap (λ j. grown (fold grown h (pairs_on view view_step chunk step 0 k)) (p j)) f)

  line-rest : (h : Grown) (len : ℕ) → h.run.view ≤ view → IsFrom 0 len → (len ≤ 3) ⊎ (3 ≤ len)
      → lengthened (len - min len 3) (fold grown h (pairs_on view view_step chunk step 0 (min len 3))) ≡ fold grown h (pairs_on view view_step chunk step 0 len)
  line-rest h len before places (inl short) =
      let e : min len 3 ≡ len = omega arith in
      let z : len - min len 3 ≡ 0 = omega arith in
      let g = fold grown h (pairs_on view view_step chunk step 0 (min len 3)) in
      let n : g.run.len + (len - min len 3) ≡ g.run.len = omega (arith, z) in
      ap (λ m. let l : Grown = record { done = g.done; run = record g.run { len = m } } in l) n
      ∙ ap (λ m. fold grown h (pairs_on view view_step chunk step 0 m)) e
  line-rest h len before places (inr long) =
      let e : min len 3 ≡ 3 = omega arith in
      let m : len - min len 3 ≡ len - 3 = omega arith in
      let n : 3 + (len - 3) ≡ len = omega arith in
      (λ i. lengthened (m i) (fold grown h (pairs_on view view_step chunk step 0 (e i))))
      ∙ sym (line-grown h 0 (len - 3) (omega (arith, before)) (λ j lt. places j (omega arith)))
      ∙ ap (λ j. fold grown h (pairs_on view view_step chunk step 0 j)) n

  pub line-whole : (g h : Grown) (len some k : ℕ) → h.run.view ≤ view → IsFrom 0 len → some ≡ min len 3 → k ≡ some
      → g ≡ fold grown h (pairs_on view view_step chunk step 0 k) → lengthened (len - some) g ≡ fold grown h (pairs_on view view_step chunk step 0 len)
  line-whole g h len some k before places is all so_far =
      (λ i. lengthened (len - is i) ((so_far ∙ ap (λ j. fold grown h (pairs_on view view_step chunk step 0 j)) (all ∙ is)) i))
      ∙ line-rest h len before places (le_or len 3)
