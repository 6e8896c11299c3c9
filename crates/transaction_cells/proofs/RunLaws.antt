-- The runs that pairs are cut into: they have these pairs, and lie where the pairs do.
use Rattle.std.proofs.Common.{◌≡◌, ◌∙◌, ℕ, zero, suc, ◌+◌, ◌-◌, ◌*◌, ◌<◌, ◌≤◌, pos, ◌+ℤ◌, ◌-ℤ◌, ◌*ℤ◌, ◌≤ℤ◌, ◌<ℤ◌, unsigned_abs, Bool, true, false, cond, set, get_or, Option, Some, List, [], ◌∷◌, ◌++◌, map, ◌⊎◌, inl, inr, refl, sym, ap, subst, arith, append_assoc}
use Rattle.std.specs.List.{flat_map, range_with_len, AllByRecursion}
use Rattle.std.proofs.Math.IntN.{*ℤ-zero}
use Rattle.std.proofs.lemmas.Int.{ints}
use Rattle.std.proofs.lemmas.List.{map-append}
use Rattle.std.proofs.lemmas.List.Sums.{fold-append}
use Rattle.cells.specs.declared.run.Run.{Run}
use Rattle.cells.specs.Runs.{Pair, pair_at, pairs_of, IsRunInside}
use Rattle.cells.proofs.Laws.{equal_or_not}
use Rattle.rebase_writes.specs.Runs.{pairs_written}
use Rattle.strided_runs.specs.Runs.{run_of_one, goes_on, longer, cut_from, runs_of_pairs}
use Rattle.strided_runs.proofs.Laws.{range-split, second, first-longer, longer-more, follows}
use Rattle.transaction_cells.specs.Tables.{runs_written}

first_at : (r : Run) → pair_at r 0 ≡ record { view = r.view; chunk = r.chunk }
first_at r =
    let z = *ℤ-zero r.chunk_step in
    let v : r.view + r.view_step * 0 ≡ r.view = omega arith in
    let c : unsigned_abs (pos r.chunk +ℤ r.chunk_step *ℤ pos 0) ≡ r.chunk = omega (arith, ints, z) in
    λ i. record { view = v i; chunk = c i }

second_at : (r : Run) (p : Pair) → r.view ≤ p.view → pair_at (second r p) 1 ≡ p
second_at r p le =
    let v : r.view + (p.view - r.view) * 1 ≡ p.view = omega arith in
    let c : unsigned_abs (pos r.chunk +ℤ (pos p.chunk -ℤ pos r.chunk) *ℤ pos 1) ≡ p.chunk = omega (arith, ints) in
    λ i. record { view = v i; chunk = c i }

one_pairs : (r : Run) → r.len ≡ 1 → pairs_of r ≡ record { view = r.view; chunk = r.chunk } ∷ []
one_pairs r e = ap (λ n. map (pair_at r) (range_with_len 0 n)) e ∙ ap (λ p. p ∷ []) (first_at r)

-- a run with a pair more has its pairs and that one
pairs-longer : (r : Run) (p : Pair) → r.view ≤ p.view → goes_on r p ≡ true → (r.len ≡ 1) ⊎ (2 ≤ r.len) → pairs_of (longer r p) ≡ pairs_of r ++ p ∷ []
pairs-longer r p le on (inl one) =
    ap pairs_of (first-longer r p one)
    ∙ (λ i. first_at (second r p) i ∷ second_at r p le i ∷ [])
    ∙ sym (ap (λ ps. ps ++ p ∷ []) (one_pairs r one))
pairs-longer r p le on (inr two) =
    let f = follows r p two on in
    let zero_more : 0 + r.len ≡ r.len = omega arith in
    let c : unsigned_abs (pos r.chunk +ℤ r.chunk_step *ℤ pos r.len) ≡ p.chunk = omega (arith, ints, f.1) in
    ap pairs_of (longer-more r p two)
    ∙ ap (map (pair_at r)) (range-split r.len 1 0)
    ∙ map-append (pair_at r) (range_with_len 0 r.len) (range_with_len (0 + r.len) 1)
    ∙ ap (λ n. pairs_of r ++ pair_at r n ∷ []) zero_more
    ∙ (λ i. pairs_of r ++ record { view = sym f.0 i; chunk = c i } ∷ [])

-- places of the view rise
abbrev pub Rise : ℕ → List Pair → Type 0
Rise least [] = Unit {0}
Rise least (p ∷ pairs) = (least ≤ p.view) × Rise least pairs

begun-longer : (r : Run) (p : Pair) → (r.len ≡ 1) ⊎ (2 ≤ r.len) → (2 ≤ (longer r p).len) × ((longer r p).view ≡ r.view)
begun-longer r p (inl one) = subst (λ (l : Run). (2 ≤ l.len) × (l.view ≡ r.view)) (sym (first-longer r p one)) (omega arith, refl)
begun-longer r p (inr two) = subst (λ (l : Run). (2 ≤ l.len) × (l.view ≡ r.view)) (sym (longer-more r p two)) (omega arith, refl)

abbrev pub AreRising : List Pair → Type 0
AreRising [] = Unit {0}
AreRising (p ∷ pairs) = Rise p.view pairs × AreRising pairs

pairs-cut : (pairs : List Pair) (r : Run) → (r.len ≡ 1) ⊎ (2 ≤ r.len) → Rise r.view pairs → AreRising pairs → flat_map pairs_of (cut_from r pairs) ≡ pairs_of r ++ pairs
pairs-cut [] r begun low rise = refl
pairs-cut (p ∷ pairs) r begun low rise =
    let more = begun-longer r p begun in
    told (goes_on r p) refl
    (pairs-cut pairs (longer r p) (inr more.0) (subst (λ n. Rise n pairs) (sym more.1) low.1) rise.1)
    (pairs-cut pairs (run_of_one p) (inl refl) rise.0 rise.1)
  where
    told : (b : Bool) → goes_on r p ≡ b → flat_map pairs_of (cut_from (longer r p) pairs) ≡ pairs_of (longer r p) ++ pairs
        → flat_map pairs_of (cut_from (run_of_one p) pairs) ≡ pairs_of (run_of_one p) ++ pairs
        → flat_map pairs_of (cond b (cut_from (longer r p) pairs) (r ∷ cut_from (run_of_one p) pairs)) ≡ pairs_of r ++ p ∷ pairs
    told true e on off = on ∙ ap (λ ps. ps ++ pairs) (pairs-longer r p low.0 e begun) ∙ append_assoc (pairs_of r) (p ∷ []) pairs
    told false e on off = ap (λ ps. pairs_of r ++ ps) (off ∙ ap (λ ps. ps ++ pairs) (one_pairs (run_of_one p) refl))

-- rising pairs are those of their runs
pub pairs-runs : (pairs : List Pair) → AreRising pairs → flat_map pairs_of (runs_of_pairs pairs) ≡ pairs
pairs-runs [] rise = refl
pairs-runs (p ∷ pairs) rise = pairs-cut pairs (run_of_one p) (inl refl) rise.0 rise.1 ∙ ap (λ ps. ps ++ pairs) (one_pairs (run_of_one p) refl)

-- what runs write is what their pairs write
pub runs_written-pairs : (runs : List Run) (words : List ℕ) (cells : List (Option ℕ)) → runs_written runs words cells ≡ pairs_written (flat_map pairs_of runs) words cells
runs_written-pairs [] words cells = refl
runs_written-pairs (run ∷ runs) words cells =
    runs_written-pairs runs words (pairs_written (pairs_of run) words cells)
    ∙ sym (fold-append (λ staged pair. set staged pair.chunk (Some (get_or words pair.view 0))) cells (pairs_of run) (flat_map pairs_of runs))

-- pairs inside make runs inside
abbrev pub IsPairInside : ℕ → ℕ → Pair → Type 0
IsPairInside view chunk p = (p.view < view) × (p.chunk < chunk)

one_inside : (n m : ℕ) (p : Pair) → IsPairInside n m p → IsRunInside (run_of_one p) n m
one_inside n m p h = record { in_view = view; from_first = low; to_last = high }
  where
    view : (k : ℕ) → k < 1 → p.view + 0 * k < n
    view zero lt = omega (arith, h.0)
    view (suc k) lt = absurd (omega (arith, lt))

    low : (k : ℕ) → k < 1 → pos 0 ≤ℤ (pos p.chunk +ℤ pos 0 *ℤ pos k)
    low zero lt = omega (arith, ints)
    low (suc k) lt = absurd (omega (arith, lt))

    high : (k : ℕ) → k < 1 → (pos p.chunk +ℤ pos 0 *ℤ pos k) <ℤ pos m
    high zero lt = let below = h.1 in omega (arith, ints, below)
    high (suc k) lt = absurd (omega (arith, lt))

second_inside : (n m : ℕ) (r : Run) (p : Pair) → r.len ≡ 1 → IsRunInside r n m → IsPairInside n m p → IsRunInside (second r p) n m
second_inside n m r p one h inside = record { in_view = view; from_first = low; to_last = high }
  where
    first : r.view < n
    first = let here = h.in_view 0 (omega (arith, one)) in omega (arith, here)

    place : r.chunk < m
    place = let here = h.to_last 0 (omega (arith, one)) in let z = *ℤ-zero r.chunk_step in omega (arith, ints, here, z)

    view : (k : ℕ) → k < 2 → r.view + (p.view - r.view) * k < n
    view zero lt = let f = first in omega (arith, f)
    view (suc zero) lt = let f = first in let g = inside.0 in omega (arith, f, g)
    view (suc (suc k)) lt = absurd (omega (arith, lt))

    low : (k : ℕ) → k < 2 → pos 0 ≤ℤ (pos r.chunk +ℤ (pos p.chunk -ℤ pos r.chunk) *ℤ pos k)
    low zero lt = let z = *ℤ-zero (pos p.chunk -ℤ pos r.chunk) in omega (arith, ints, z)
    low (suc zero) lt = omega (arith, ints)
    low (suc (suc k)) lt = absurd (omega (arith, lt))

    high : (k : ℕ) → k < 2 → (pos r.chunk +ℤ (pos p.chunk -ℤ pos r.chunk) *ℤ pos k) <ℤ pos m
    high zero lt = let z = *ℤ-zero (pos p.chunk -ℤ pos r.chunk) in let f = place in omega (arith, ints, z, f)
    high (suc zero) lt = let f = inside.1 in omega (arith, ints, f)
    high (suc (suc k)) lt = absurd (omega (arith, lt))

more_inside : (n m : ℕ) (r : Run) (p : Pair) → (p.view ≡ r.view + r.view_step * r.len) × (pos p.chunk ≡ pos r.chunk +ℤ r.chunk_step *ℤ pos r.len) → IsRunInside r n m → IsPairInside n m p → IsRunInside (record r { len = r.len + 1 }) n m
more_inside n m r p on h inside = record { in_view = view; from_first = low; to_last = high }
  where
    view : (k : ℕ) → k < r.len + 1 → r.view + r.view_step * k < n
    view k lt = elim (equal_or_not k r.len) [
      | inl same ↦ subst (λ (i : ℕ). r.view + r.view_step * i < n) (sym same) (subst (λ (i : ℕ). i < n) on.0 inside.0)
      | inr other ↦ h.in_view k (omega (arith, lt, other))
    ]

    low : (k : ℕ) → k < r.len + 1 → pos 0 ≤ℤ (pos r.chunk +ℤ r.chunk_step *ℤ pos k)
    low k lt = elim (equal_or_not k r.len) [
      | inl same ↦ subst (λ (i : ℕ). pos 0 ≤ℤ (pos r.chunk +ℤ r.chunk_step *ℤ pos i)) (sym same) (subst (λ z. pos 0 ≤ℤ z) on.1 (omega (arith, ints)))
      | inr other ↦ h.from_first k (omega (arith, lt, other))
    ]

    high : (k : ℕ) → k < r.len + 1 → (pos r.chunk +ℤ r.chunk_step *ℤ pos k) <ℤ pos m
    high k lt = elim (equal_or_not k r.len) [
      | inl same ↦ subst (λ (i : ℕ). (pos r.chunk +ℤ r.chunk_step *ℤ pos i) <ℤ pos m) (sym same) (subst (λ z. z <ℤ pos m) on.1 (let below = inside.1 in omega (arith, ints, below)))
      | inr other ↦ h.to_last k (omega (arith, lt, other))
    ]

longer_inside : (n m : ℕ) (r : Run) (p : Pair) → goes_on r p ≡ true → (r.len ≡ 1) ⊎ (2 ≤ r.len) → IsRunInside r n m → IsPairInside n m p → IsRunInside (longer r p) n m
longer_inside n m r p on (inl one) h inside = subst (λ (l : Run). IsRunInside l n m) (sym (first-longer r p one)) (second_inside n m r p one h inside)
longer_inside n m r p on (inr two) h inside = subst (λ (l : Run). IsRunInside l n m) (sym (longer-more r p two)) (more_inside n m r p (follows r p two on) h inside)

cut_inside : (n m : ℕ) (pairs : List Pair) (r : Run) → (r.len ≡ 1) ⊎ (2 ≤ r.len) → IsRunInside r n m → AllByRecursion (IsPairInside n m) pairs → AllByRecursion (λ run. IsRunInside run n m) (cut_from r pairs)
cut_inside n m [] r begun h all = (h, tt)
cut_inside n m (p ∷ pairs) r begun h all =
    told (goes_on r p) refl (λ on. cut_inside n m pairs (longer r p) (inr (begun-longer r p begun).0) (longer_inside n m r p on begun h all.0) all.1)
    (cut_inside n m pairs (run_of_one p) (inl refl) (one_inside n m p all.0) all.1)
  where
    told : (b : Bool) → goes_on r p ≡ b → (goes_on r p ≡ true → AllByRecursion (λ run. IsRunInside run n m) (cut_from (longer r p) pairs))
        → AllByRecursion (λ run. IsRunInside run n m) (cut_from (run_of_one p) pairs)
        → AllByRecursion (λ run. IsRunInside run n m) (cond b (cut_from (longer r p) pairs) (r ∷ cut_from (run_of_one p) pairs))
    told true e on off = on e
    told false e on off = (h, off)

pub runs_inside : (n m : ℕ) (pairs : List Pair) → AllByRecursion (IsPairInside n m) pairs → AllByRecursion (λ run. IsRunInside run n m) (runs_of_pairs pairs)
runs_inside n m [] all = tt
runs_inside n m (p ∷ pairs) all = cut_inside n m pairs (run_of_one p) (inl refl) (one_inside n m p all.0) all.1
