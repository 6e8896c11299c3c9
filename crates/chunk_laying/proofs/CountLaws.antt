-- How many chunks a new shape cuts, one dimension after another, none of the counts ever above a limit.
use Rattle.std.proofs.Common.{◌≡◌, ℕ, zero, suc, ◌+◌, ◌-◌, ◌*◌, ◌<◌, ◌≤◌, List, [], ◌∷◌, length, drop, get_or, set, slice_index, min, ◌≢◌, inl, inr, refl, sym, ap, subst, ◌∙◌, arith}
use Rattle.std.specs.Int.{div_ceil}
use Rattle.std.proofs.Math.Nat.{le-mul_of_pos_right, add-mul, mul_comm}
use Rattle.std.proofs.Math.Seq.{drop-cons}
use Rattle.std.proofs.lemmas.List.{get_or-set_other, get_or-set_same}
use Rattle.cells.specs.Places.{cell_count}
use Rattle.cells.proofs.Laws.{less_or_not}
use Rattle.history.specs.Grid.{grid_of}
use Rattle.history.specs.Resizes.{whole_along, whole_grid}
use Rattle.history.proofs.Laws.{ArePositive, cut_count}
use Rattle.chunk_laying.specs.declared.counting.Counts.{Counts}
use Rattle.chunk_laying.specs.Resized.{cut_indices}
use Rattle.chunk_laying.specs.Behind.{IsCounted}

-- a product below a limit is that of its factors below the limit
capped_product : (s a b x y : ℕ) → 0 < s → x ≡ min a s → y ≡ min b s → min (x * y) s ≡ min (a * b) s
capped_product s a b x y some ex ey =
    elim (less_or_not 0 a) [
      | inr none ↦ (
          let one : x * y ≡ 0 * y = ap (λ n. n * y) (let is : x ≡ 0 = omega arith in is) in
          let other : a * b ≡ 0 * b = ap (λ n. n * b) (let is : a ≡ 0 = omega arith in is) in
          omega arith)
      | inl above ↦ elim (less_or_not 0 b) [
        | inr none ↦ (
            let one : x * y ≡ x * 0 = ap (λ n. x * n) (let is : y ≡ 0 = omega arith in is) in
            let other : a * b ≡ a * 0 = ap (λ n. a * n) (let is : b ≡ 0 = omega arith in is) in
            omega arith)
        | inl below ↦ elim (less_or_not s a) [
          | inl more ↦ (
              let one : x ≤ x * y = le-mul_of_pos_right {m = y} x (omega arith) in
              let other : a ≤ a * b = le-mul_of_pos_right {m = b} a below in
              omega arith)
          | inr most ↦ elim (less_or_not s b) [
            | inl more ↦ (
                let one : y ≤ y * x = le-mul_of_pos_right {m = x} y (omega arith) in
                let other : b ≤ b * a = le-mul_of_pos_right {m = a} b above in
                omega (arith, mul_comm x y, mul_comm a b))
            | inr few ↦ (
                let one : x ≡ a = omega arith in
                let other : y ≡ b = omega arith in
                ap (λ n. min (n * y) s) one ∙ ap (λ n. min (a * n) s) other)
          ]
        ]
      ]
    ]

capped_sum : (s a b x y whole : ℕ) → min a s ≡ min x s → min b s ≡ min y s → whole ≡ x + y → min (a + b) s ≡ min whole s
capped_sum s a b x y whole one other is = omega arith

-- the chunks that are cut: those past the whole ones along a dimension, and of the whole ones those that are cut along another
parted : (count whole all rest cut kept : ℕ) → whole ≤ count → rest + kept ≡ all → cut + whole * kept ≡ count * all → cut ≡ (count - whole) * all + whole * rest
parted count whole all rest cut kept most others is =
    let split : count ≡ whole + (count - whole) = omega arith in
    let wide : count * all ≡ whole * all + (count - whole) * all = ap (λ n. n * all) split ∙ add-mul whole (count - whole) all in
    let deep : whole * all ≡ rest * whole + kept * whole = ap (λ n. whole * n) (sym others) ∙ mul_comm whole (rest + kept) ∙ add-mul rest kept whole in
    omega (arith, mul_comm rest whole, mul_comm kept whole, wide, deep, is)

cut_step : (count whole all rest cut kept most_all most_rest : ℕ) → whole ≤ count → rest + kept ≡ all → cut + whole * kept ≡ count * all → most_all ≡ min all 65537 → most_rest ≡ min rest 65537
    → min (min (count - whole) 65537 * most_all + min whole 65537 * most_rest) 65537 ≡ min cut 65537
cut_step count whole all rest cut kept most_all most_rest most others is all_is rest_is =
    capped_sum 65537 (min (count - whole) 65537 * most_all) (min whole 65537 * most_rest) ((count - whole) * all) (whole * rest) cut
    (capped_product 65537 (count - whole) all (min (count - whole) 65537) most_all (omega arith) refl all_is)
    (capped_product 65537 whole rest (min whole 65537) most_rest (omega arith) refl rest_is)
    (parted count whole all rest cut kept most others is)

pub positive-at : (ns : List ℕ) (k : ℕ) → ArePositive ns → k < length ns → 0 < slice_index ns k
positive-at [] k all lt = absurd (omega arith)
positive-at (n ∷ ns) zero all lt = all.0
positive-at (n ∷ ns) (suc k) all lt = positive-at ns k all.1 (omega arith)

positive-drop : (k : ℕ) (ns : List ℕ) → ArePositive ns → ArePositive (drop k ns)
positive-drop zero ns all = all
positive-drop (suc k) [] all = tt
positive-drop (suc k) (n ∷ ns) all = positive-drop k ns all.1

rank-drop : (k : ℕ) (ns olds : List ℕ) → length ns ≡ length olds → length (drop k ns) ≡ length (drop k olds)
rank-drop zero ns olds e = e
rank-drop (suc k) [] [] e = refl
rank-drop (suc k) [] (s ∷ olds) e = absurd (omega arith)
rank-drop (suc k) (n ∷ ns) [] e = absurd (omega arith)
rank-drop (suc k) (n ∷ ns) (s ∷ olds) e = rank-drop k ns olds (omega arith)

one_more : (n s t : ℕ) (ns olds news : List ℕ) (all cut count whole : ℕ) → ArePositive (n ∷ ns) → length ns ≡ length olds → length news ≡ length olds → count ≡ div_ceil s n → whole ≡ whole_along s t n count → whole ≤ count
    → IsCounted ns olds news all cut → IsCounted (n ∷ ns) (s ∷ olds) (t ∷ news) (min (min count 65537 * all) 65537) (min (min (count - whole) 65537 * all + min whole 65537 * cut) 65537)
one_more n s t ns olds news all cut count whole pos e f count_is whole_is most so_far =
    let rest = cut_count ns olds news pos.1 e f in
    let more = cut_count (n ∷ ns) (s ∷ olds) (t ∷ news) pos (omega arith) (omega arith) in
    let whole_here : whole ≡ whole_along s t n (div_ceil s n) = subst (λ c. whole ≡ whole_along s t n c) count_is whole_is in
    let is : length (cut_indices (n ∷ ns) (s ∷ olds) (t ∷ news)) + whole * cell_count (whole_grid ns olds news) ≡ count * cell_count (grid_of olds ns) =
    ap (λ w. length (cut_indices (n ∷ ns) (s ∷ olds) (t ∷ news)) + w * cell_count (whole_grid ns olds news)) whole_here ∙ more ∙ sym (ap (λ c. c * cell_count (grid_of olds ns)) count_is) in
    record {
      all_is = capped_product 65537 count (cell_count (grid_of olds ns)) (min count 65537) all (omega arith) refl so_far.all_is ∙ ap (λ c. min (c * cell_count (grid_of olds ns)) 65537) count_is;
      cut_is = cut_step count whole (cell_count (grid_of olds ns)) (length (cut_indices ns olds news)) (length (cut_indices (n ∷ ns) (s ∷ olds) (t ∷ news))) (cell_count (whole_grid ns olds news)) all cut most rest is so_far.all_is so_far.cut_is;
    }

-- one step of the loop from the last dimension to the first, where `next` is `suc k`
pub counted-step : (ns olds news : List ℕ) (k next all cut count whole new_all new_cut : ℕ) → next ≡ suc k → ArePositive ns → length ns ≡ length olds → length news ≡ length olds → k < length ns
    → count ≡ div_ceil (slice_index olds k) (slice_index ns k) → whole ≡ whole_along (slice_index olds k) (slice_index news k) (slice_index ns k) count → whole ≤ count
    → new_all ≡ min (min count 65537 * all) 65537 → new_cut ≡ min (min (count - whole) 65537 * all + min whole 65537 * cut) 65537
    → IsCounted (drop next ns) (drop next olds) (drop next news) all cut → IsCounted (drop k ns) (drop k olds) (drop k news) new_all new_cut
counted-step ns olds news k next all cut count whole new_all new_cut turn pos e f lt count_is whole_is most all_is cut_is so_far =
    let here : IsCounted (drop (suc k) ns) (drop (suc k) olds) (drop (suc k) news) all cut = subst (λ j. IsCounted (drop j ns) (drop j olds) (drop j news) all cut) turn so_far in
    let all_pos : ArePositive (slice_index ns k ∷ drop (suc k) ns) = subst ArePositive (drop-cons ns k 0 lt) (positive-drop k ns pos) in
    let step = one_more (slice_index ns k) (slice_index olds k) (slice_index news k) (drop (suc k) ns) (drop (suc k) olds) (drop (suc k) news) all cut count whole all_pos
    (rank-drop (suc k) ns olds e) (rank-drop (suc k) news olds f) count_is whole_is most here in
    let as_all = subst (λ a. IsCounted (slice_index ns k ∷ drop (suc k) ns) (slice_index olds k ∷ drop (suc k) olds) (slice_index news k ∷ drop (suc k) news) a (min (min (count - whole) 65537 * all + min whole 65537 * cut) 65537)) (sym all_is) step in
    let as_cut = subst (λ b. IsCounted (slice_index ns k ∷ drop (suc k) ns) (slice_index olds k ∷ drop (suc k) olds) (slice_index news k ∷ drop (suc k) news) new_all b) (sym cut_is) as_all in
    let in_ns = subst (λ l. IsCounted l (slice_index olds k ∷ drop (suc k) olds) (slice_index news k ∷ drop (suc k) news) new_all new_cut) (sym (drop-cons ns k 0 lt)) as_cut in
    let in_olds = subst (λ l. IsCounted (drop k ns) l (slice_index news k ∷ drop (suc k) news) new_all new_cut) (sym (drop-cons olds k 0 (omega arith))) in_ns in
    subst (λ l. IsCounted (drop k ns) (drop k olds) l new_all new_cut) (sym (drop-cons news k 0 (omega arith))) in_olds

-- before the first step
pub counted-none : (ns olds news : List ℕ) (k : ℕ) → length ns ≡ length olds → length news ≡ length olds → k ≡ length ns → IsCounted (drop k ns) (drop k olds) (drop k news) 1 0
counted-none [] [] [] zero e f is = record { all_is = refl; cut_is = refl }
counted-none [] [] [] (suc k) e f is = absurd (omega arith)
counted-none [] [] (t ∷ news) k e f is = absurd (omega arith)
counted-none [] (s ∷ olds) news k e f is = absurd (omega arith)
counted-none (n ∷ ns) [] news k e f is = absurd (omega arith)
counted-none (n ∷ ns) (s ∷ olds) [] k e f is = absurd (omega arith)
counted-none (n ∷ ns) (s ∷ olds) (t ∷ news) zero e f is = absurd (omega arith)
counted-none (n ∷ ns) (s ∷ olds) (t ∷ news) (suc k) e f is = counted-none ns olds news k (omega arith) (omega arith) (omega arith)

-- what stands for each dimension that is done, with one more
pub behind-step : (ns olds news : List ℕ) (behind next : List Counts) (k turn : ℕ) (counts : Counts) → turn ≡ suc k → k < length behind → next ≡ set behind k counts
    → IsCounted (drop turn ns) (drop turn olds) (drop turn news) counts.all counts.cut
    → ((j : ℕ) (d : Counts) → turn ≤ j → j < length ns → IsCounted (drop (suc j) ns) (drop (suc j) olds) (drop (suc j) news) (get_or behind j d).all (get_or behind j d).cut)
    → (j : ℕ) (d : Counts) → k ≤ j → j < length ns → IsCounted (drop (suc j) ns) (drop (suc j) olds) (drop (suc j) news) (get_or next j d).all (get_or next j d).cut
behind-step ns olds news behind next k turn counts is lt set_is here done j d le below =
    let P : ℕ → Counts → Type 0 = λ i c. IsCounted (drop i ns) (drop i olds) (drop i news) c.all c.cut in
    elim (less_or_not k j) [
      | inl later ↦
          let other : j ≢ k = omega arith in
          let same : get_or behind j d ≡ get_or next j d = sym (ap (λ l. get_or l j d) set_is ∙ get_or-set_other behind k j counts d other) in
          subst (P (suc j)) same (done j d (omega arith) below)
      | inr now ↦
          let one : turn ≡ suc j = omega arith in
          let place : j ≡ k = omega arith in
          let same : counts ≡ get_or next j d = sym (ap (λ i. get_or next i d) place ∙ ap (λ l. get_or l k d) set_is ∙ get_or-set_same behind k counts d lt) in
          subst (P (suc j)) same (subst (λ i. P i counts) one here)
    ]
