-- The chunk at a place among all chunks of a grid, or among those that a new shape cuts, one dimension after another.
use Rattle.std.proofs.Common.{◌≡◌, ℕ, zero, suc, ◌+◌, ◌-◌, ◌*◌, ◌/◌, ◌%◌, ◌<◌, ◌≤◌, List, [], ◌∷◌, ◌++◌, length, drop, take, get_or, map, min, Bool, true, false, inl, inr, refl, sym, ap, subst, ◌∙◌, arith, length-append, length-drop, append_assoc}
use Rattle.std.specs.Prelude.{slice_index_or}
use Rattle.std.specs.Int.{div_ceil}
use Rattle.std.proofs.Math.Nat.{div-eq_of_lt, div-lt_iff_lt-mul, mod-eq_of_lt, add-mul, suc-mul, zero-mul, le-mul_of_pos_right, mul_comm}
use Rattle.std.proofs.Math.ListN.{get_or-append}
use Rattle.std.proofs.Math.Seq.{take-length}
use Rattle.std.proofs.lemmas.List.{get_or-append_right, get_or-map}
use Rattle.std.proofs.lemmas.Nat.{div-mul-add, mod-mul-add, div-add-mod', mod_below}
use Rattle.cells.specs.Places.{index_vectors}
use Rattle.cells.proofs.Laws.{length-index_vectors, less_or_not}
use Rattle.history.specs.Grid.{grid_of}
use Rattle.history.specs.Resizes.{whole_along}
use Rattle.history.proofs.Laws.{ArePositive}
use Rattle.chunk_laying.specs.Behind.{IsCounted, chunks_of}
use Rattle.chunk_laying.specs.Resized.{cut_indices}
use Rattle.chunk_laying.proofs.PassLaws.{rows, cut_indices-cons}

length-map-cons : (c : ℕ) (rest : List (List ℕ)) → length (map (λ cs. c ∷ cs) rest) ≡ length rest
length-map-cons c [] = refl
length-map-cons c (cs ∷ rest) = ap suc (length-map-cons c rest)

length-rows : (rest : List (List ℕ)) (from count : ℕ) → length (rows rest from count) ≡ count * length rest
length-rows rest from zero = sym (zero-mul (length rest))
length-rows rest from (suc count) =
    length-append (map (λ cs. from ∷ cs) rest) (rows rest (from + 1) count)
    ∙ ap (λ m. m + length (rows rest (from + 1) count)) (length-map-cons from rest)
    ∙ ap (λ m. length rest + m) (length-rows rest (from + 1) count)
    ∙ omega (arith, suc-mul count (length rest))

-- a row further on
next_row : (k r : ℕ) → 0 < k → k ≤ r → ((r - k) / k + 1 ≡ r / k) × ((r - k) % k ≡ r % k)
next_row k r pos le =
    let q = (r - k) / k in
    let i = (r - k) % k in
    let below : i < k = mod_below (r - k) k pos in
    let whole : q * k + i ≡ r - k = div-add-mod' (r - k) k in
    let one_more : (q + 1) * k ≡ q * k + k = omega (arith, add-mul q 1 k) in
    let is : (q + 1) * k + i ≡ r = omega arith in (
      sym (div-mul-add (q + 1) k i below) ∙ ap (λ m. m / k) is,
      sym (mod-mul-add (q + 1) k i below) ∙ ap (λ m. m % k) is,
    )

-- a list of the rows by its place
pub rows-at : (rest : List (List ℕ)) (from count r : ℕ) → r < count * length rest → get_or (rows rest from count) r [] ≡ (from + r / length rest) ∷ get_or rest (r % length rest) []
rows-at rest from zero r lt = absurd (omega (arith, zero-mul (length rest)))
rows-at rest from (suc count) r lt =
    elim (less_or_not r (length rest)) [
      | inl here ↦
          let first : get_or (rows rest from (suc count)) r [] ≡ get_or (map (λ cs. from ∷ cs) rest) r [] =
          get_or-append (map (λ cs. from ∷ cs) rest) (rows rest (from + 1) count) [] r (omega (arith, length-map-cons from rest)) in
          let none : from ≡ from + r / length rest = omega (arith, div-eq_of_lt {n = r} {m = length rest} here) in
          first ∙ get_or-map (λ cs. from ∷ cs) rest r [] [] here
          ∙ ap (λ m. m ∷ get_or rest r []) none ∙ ap (λ m. (from + r / length rest) ∷ get_or rest m []) (sym (mod-eq_of_lt {n = r} {m = length rest} here))
      | inr after ↦
          let le : length rest ≤ r = omega arith in
          let total = suc-mul count (length rest) in
          let some : 0 < length rest = elim (less_or_not 0 (length rest)) [
            | inl is ↦ is
            | inr none ↦ (let empty : length rest ≡ 0 = omega arith in let product : suc count * length rest ≡ suc count * 0 = ap (λ m. suc count * m) empty in absurd (omega arith))
          ] in
          let turn = next_row (length rest) r some le in
          let rest_at = rows-at rest (from + 1) count (r - length rest) (omega arith) in
          let index : from + 1 + (r - length rest) / length rest ≡ from + r / length rest = omega (arith, turn.0) in
          get_or-append_right (map (λ cs. from ∷ cs) rest) (rows rest (from + 1) count) (length rest) r [] (length-map-cons from rest) le
          ∙ rest_at ∙ ap (λ m. m ∷ get_or rest ((r - length rest) % length rest) []) index ∙ ap (λ m. (from + r / length rest) ∷ get_or rest m []) turn.1
    ]

-- a number below a limit is divided by a count as by the count below the limit
capped_division : (s r x y : ℕ) → r < s → y ≡ min x s → (r / y ≡ r / x) × (r % y ≡ r % x)
capped_division s r x y lt is =
    elim (less_or_not s x) [
      | inl more ↦
          let limit : y ≡ s = omega arith in (
            ap (λ m. r / m) limit ∙ div-eq_of_lt {n = r} {m = s} lt ∙ sym (div-eq_of_lt {n = r} {m = x} (omega arith)),
            ap (λ m. r % m) limit ∙ mod-eq_of_lt {n = r} {m = s} lt ∙ sym (mod-eq_of_lt {n = r} {m = x} (omega arith)),
          )
      | inr most ↦ (let same : y ≡ x = omega arith in (ap (λ m. r / m) same, ap (λ m. r % m) same))
    ]

-- how many chunks keep their cells along a dimension and are cut behind it, for a place below the limit
capped_below : (s r w x y : ℕ) → r < s → y ≡ min x s → r < min w s * y → r < w * x
capped_below s r w x y lt is below =
    elim (less_or_not 0 w) [
      | inr none ↦ (let zero_w : min w s ≡ 0 = omega arith in let product : min w s * y ≡ 0 * y = ap (λ m. m * y) zero_w in absurd (omega (arith, zero-mul y)))
      | inl some ↦ elim (less_or_not 0 x) [
        | inr none ↦ (let zero_y : y ≡ 0 = omega arith in let product : min w s * y ≡ min w s * 0 = ap (λ m. min w s * m) zero_y in absurd (omega arith))
        | inl any ↦ (
            let wide : w ≤ w * x = le-mul_of_pos_right {m = x} w any in
            let deep : x ≤ x * w = le-mul_of_pos_right {m = w} x some in
            let swap = mul_comm x w in
            elim (less_or_not s w) [
              | inl more ↦ omega arith
              | inr few ↦ elim (less_or_not s x) [
                | inl more ↦ omega arith
                | inr little ↦ (
                    let one : min w s ≡ w = omega arith in
                    let other : y ≡ x = omega arith in
                    let same : min w s * y ≡ w * x = ap (λ m. m * y) one ∙ ap (λ m. w * m) other in
                    omega arith)
              ]
            ])
      ]
    ]

capped_past : (s r w x y : ℕ) → r < s → y ≡ min x s → min w s * y ≤ r → w * x ≡ min w s * y
capped_past s r w x y lt is past =
    elim (less_or_not 0 (min w s)) [
      | inr none ↦ (
          let zero_w : w ≡ 0 = omega arith in
          let one : w * x ≡ 0 * x = ap (λ m. m * x) zero_w in
          let zero_min : min w s ≡ 0 = omega arith in
          let other : min w s * y ≡ 0 * y = ap (λ m. m * y) zero_min in
          omega (arith, zero-mul x, zero-mul y))
      | inl some ↦ elim (less_or_not 0 y) [
        | inr none ↦ (
            let zero_x : x ≡ 0 = omega arith in
            let one : w * x ≡ w * 0 = ap (λ m. w * m) zero_x in
            let zero_y : y ≡ 0 = omega arith in
            let other : min w s * y ≡ min w s * 0 = ap (λ m. min w s * m) zero_y in
            omega arith)
        | inl any ↦ (
            let wide : min w s ≤ min w s * y = le-mul_of_pos_right {m = y} (min w s) any in
            let deep : y ≤ y * min w s = le-mul_of_pos_right {m = min w s} y some in
            let swap = mul_comm y (min w s) in
            let one : min w s ≡ w = omega arith in
            let other : y ≡ x = omega arith in
            sym (ap (λ m. m * y) one ∙ ap (λ m. w * m) other))
      ]
    ]

-- a divisor that a place is below some rows of
pub some_row : (r count k : ℕ) → r < count * k → 0 < k
some_row r count k lt =
    elim (less_or_not 0 k) [
      | inl is ↦ is
      | inr none ↦ (let empty : k ≡ 0 = omega arith in let product : count * k ≡ count * 0 = ap (λ m. count * m) empty in absurd (omega arith))
    ]

-- where the chunk at a place stands: its number along the first dimension, and its place among the chunks behind it
pub record IsFirst (was next : Bool) (ns olds news : List ℕ) (place index rest : ℕ) : Type 0 where
  pub chunk : slice_index_or (chunks_of was ns olds news) place [] ≡ index ∷ slice_index_or (chunks_of next (drop 1 ns) (drop 1 olds) (drop 1 news)) rest []
  pub below : rest < length (chunks_of next (drop 1 ns) (drop 1 olds) (drop 1 news))
  pub few : rest ≤ 65536

-- a place below some rows of a list, by the count of the list below the limit
in_rows : (rest : List (List ℕ)) (from count r k : ℕ) → k ≡ min (length rest) 65537 → r ≤ 65536 → r < count * length rest
    → (get_or (rows rest from count) r [] ≡ (from + r / k) ∷ get_or rest (r % k) []) × ((r % k < length rest) × (r % k ≤ 65536))
in_rows rest from count r k is few lt =
    let some = some_row r count (length rest) lt in
    let same = capped_division 65537 r (length rest) k (omega arith) is in
    let low : r % length rest < length rest = mod_below r (length rest) some in
    let below : r % k < length rest = omega (arith, same.1, low) in
    let limit : r % k < k = mod_below r k (omega arith) in (
      rows-at rest from count r lt ∙ ap (λ m. (from + m) ∷ get_or rest (r % length rest) []) (sym same.0) ∙ ap (λ m. (from + r / k) ∷ get_or rest m []) (sym same.1),
      (below, omega arith),
    )

-- a chunk is cut along a dimension before: all behind it are asked for
pub first_of_all : (ns olds news : List ℕ) (all cut place : ℕ) (was : Bool) → was ≡ true → 0 < length ns → length olds ≡ length ns → length news ≡ length ns
    → IsCounted (drop 1 ns) (drop 1 olds) (drop 1 news) all cut → place < length (chunks_of was ns olds news) → place ≤ 65536
    → IsFirst was was ns olds news place (place / all) (place % all) × (0 < all)
first_of_all [] olds news all cut place was is some e f counts lt few = absurd (omega arith)
first_of_all (n ∷ ns) [] news all cut place was is some e f counts lt few = absurd (omega arith)
first_of_all (n ∷ ns) (s ∷ olds) [] all cut place was is some e f counts lt few = absurd (omega arith)
first_of_all (n ∷ ns) (s ∷ olds) (t ∷ news) all cut place was is some e f counts lt few =
    let rest = index_vectors (grid_of olds ns) in
    let all_is : all ≡ min (length rest) 65537 = counts.all_is ∙ ap (λ m. min m 65537) (sym (length-index_vectors (grid_of olds ns))) in
    let here : place < length (chunks_of true (n ∷ ns) (s ∷ olds) (t ∷ news)) = subst (λ b. place < length (chunks_of b (n ∷ ns) (s ∷ olds) (t ∷ news))) is lt in
    let low : place < div_ceil s n * length rest = omega (arith, length-rows rest 0 (div_ceil s n)) in
    let any = some_row place (div_ceil s n) (length rest) low in
    let there = in_rows rest 0 (div_ceil s n) place all all_is few low in
    let start : 0 + place / all ≡ place / all = omega arith in (
      subst (λ b. IsFirst b b (n ∷ ns) (s ∷ olds) (t ∷ news) place (place / all) (place % all)) (sym is)
          record {
            chunk = there.0 ∙ ap (λ m. m ∷ get_or rest (place % all) []) start;
            below = there.1.0;
            few = there.1.1;
          },
      omega arith,
    )

-- of those that are cut one that keeps its cells along the dimension
pub first_of_kept : (ns olds news : List ℕ) (all cut place count whole least : ℕ) (was : Bool) → was ≡ false → 0 < length ns → length olds ≡ length ns → length news ≡ length ns → ArePositive ns
    → IsCounted (drop 1 ns) (drop 1 olds) (drop 1 news) all cut → place ≤ 65536
    → count ≡ div_ceil (get_or olds 0 0) (get_or ns 0 0) → whole ≡ whole_along (get_or olds 0 0) (get_or news 0 0) (get_or ns 0 0) count → whole ≤ count → least ≡ min whole 65537
    → place < least * cut → IsFirst was was ns olds news place (place / cut) (place % cut)
first_of_kept [] olds news all cut place count whole least was is some e f pos counts few count_is whole_is most least_is lt = absurd (omega arith)
first_of_kept (n ∷ ns) [] news all cut place count whole least was is some e f pos counts few count_is whole_is most least_is lt = absurd (omega arith)
first_of_kept (n ∷ ns) (s ∷ olds) [] all cut place count whole least was is some e f pos counts few count_is whole_is most least_is lt = absurd (omega arith)
first_of_kept (n ∷ ns) (s ∷ olds) (t ∷ news) all cut place count whole least was is some e f pos counts few count_is whole_is most least_is lt =
    let rest = cut_indices ns olds news in
    let here : whole ≡ whole_along s t n (div_ceil s n) = subst (λ m. whole ≡ whole_along s t n m) count_is whole_is in
    let parts = cut_indices-cons n s t ns olds news whole pos (omega arith) here (omega arith) in
    let low = capped_below 65537 place whole (length rest) cut (omega arith) counts.cut_is (subst (λ m. place < m * cut) least_is lt) in
    let there = in_rows rest 0 whole place cut counts.cut_is few low in
    let start : 0 + place / cut ≡ place / cut = omega arith in
    let short : place < length (rows rest 0 whole) = omega (arith, length-rows rest 0 whole) in
    subst (λ b. IsFirst b b (n ∷ ns) (s ∷ olds) (t ∷ news) place (place / cut) (place % cut)) (sym is)
    record {
      chunk = ap (λ xs. get_or xs place []) parts ∙ get_or-append (rows rest 0 whole) (rows (index_vectors (grid_of olds ns)) whole (div_ceil s n - whole)) [] place short ∙ there.0 ∙ ap (λ i. i ∷ get_or rest (place % cut) []) start;
      below = there.1.0;
      few = there.1.1;
    }

-- and one that doesn't: all behind it are cut
pub first_of_lost : (ns olds news : List ℕ) (all cut place count whole least : ℕ) (was : Bool) → was ≡ false → 0 < length ns → length olds ≡ length ns → length news ≡ length ns → ArePositive ns
    → IsCounted (drop 1 ns) (drop 1 olds) (drop 1 news) all cut → place < length (chunks_of was ns olds news) → place ≤ 65536
    → count ≡ div_ceil (get_or olds 0 0) (get_or ns 0 0) → whole ≡ whole_along (get_or olds 0 0) (get_or news 0 0) (get_or ns 0 0) count → whole ≤ count → least ≡ min whole 65537
    → least * cut ≤ place
    → IsFirst was true ns olds news place (whole + (place - least * cut) / all) ((place - least * cut) % all) × ((0 < all) × (whole + (place - least * cut) / all < count))
first_of_lost [] olds news all cut place count whole least was is some e f pos counts lt few count_is whole_is most least_is past = absurd (omega arith)
first_of_lost (n ∷ ns) [] news all cut place count whole least was is some e f pos counts lt few count_is whole_is most least_is past = absurd (omega arith)
first_of_lost (n ∷ ns) (s ∷ olds) [] all cut place count whole least was is some e f pos counts lt few count_is whole_is most least_is past = absurd (omega arith)
first_of_lost (n ∷ ns) (s ∷ olds) (t ∷ news) all cut place count whole least was is some e f pos counts lt few count_is whole_is most least_is past =
    let kept = cut_indices ns olds news in
    let rest = index_vectors (grid_of olds ns) in
    let lost = div_ceil s n - whole in
    let here : whole ≡ whole_along s t n (div_ceil s n) = subst (λ m. whole ≡ whole_along s t n m) count_is whole_is in
    let parts = cut_indices-cons n s t ns olds news whole pos (omega arith) here (omega arith) in
    let same : whole * length kept ≡ least * cut = capped_past 65537 place whole (length kept) cut (omega arith) counts.cut_is (subst (λ m. m * cut ≤ place) least_is past) ∙ ap (λ m. m * cut) (sym least_is) in
    let before : length (rows kept 0 whole) ≡ least * cut = length-rows kept 0 whole ∙ same in
    let all_is : all ≡ min (length rest) 65537 = counts.all_is ∙ ap (λ m. min m 65537) (sym (length-index_vectors (grid_of olds ns))) in
    let total : length (cut_indices (n ∷ ns) (s ∷ olds) (t ∷ news)) ≡ least * cut + lost * length rest =
    ap length parts ∙ length-append (rows kept 0 whole) (rows rest whole lost) ∙ ap (λ m. m + length (rows rest whole lost)) before ∙ ap (λ m. least * cut + m) (length-rows rest whole lost) in
    let low : place < length (chunks_of false (n ∷ ns) (s ∷ olds) (t ∷ news)) = subst (λ b. place < length (chunks_of b (n ∷ ns) (s ∷ olds) (t ∷ news))) is lt in
    let behind : place - least * cut < lost * length rest = omega (arith, low, total) in
    let there = in_rows rest whole lost (place - least * cut) all all_is (omega arith) behind in
    let any = some_row (place - least * cut) lost (length rest) behind in
    let division = capped_division 65537 (place - least * cut) (length rest) all (omega arith) all_is in
    let short : (place - least * cut) / length rest < lost = (div-lt_iff_lt-mul {k = length rest} {x = place - least * cut} {y = lost} any).1 behind in (
      subst (λ b. IsFirst b true (n ∷ ns) (s ∷ olds) (t ∷ news) place (whole + (place - least * cut) / all) ((place - least * cut) % all)) (sym is)
          record {
            chunk = ap (λ xs. get_or xs place []) parts ∙ get_or-append_right (rows kept 0 whole) (rows rest whole lost) (least * cut) place [] before past ∙ there.0;
            below = there.1.0;
            few = there.1.1;
          },
      (omega arith, omega (arith, division.0, short)),
    )

drop_next : (k : ℕ) (xs : List ℕ) → drop 1 (drop k xs) ≡ drop (suc k) xs
drop_next zero xs = refl
drop_next (suc k) [] = refl
drop_next (suc k) (x ∷ xs) = drop_next k xs

whole_rest : (xs : List ℕ) (k : ℕ) → take (length xs - k) (drop k xs) ≡ drop k xs
whole_rest xs k = ap (λ m. take m (drop k xs)) (sym (length-drop k xs)) ∙ take-length (drop k xs)

rest_is : (xs : List ℕ) (k turn : ℕ) → turn ≡ suc k → drop 1 (take (length xs - k) (drop k xs)) ≡ drop turn xs
rest_is xs k turn is = ap (drop 1) (whole_rest xs k) ∙ drop_next k xs ∙ ap (λ m. drop m xs) (sym is)

-- a value of three lists, along equations of each
along_three : (P : List ℕ → List ℕ → List ℕ → Type 0) (a b c x y z : List ℕ) → a ≡ x → b ≡ y → c ≡ z → P a b c → P x y z
along_three P a b c x y z p q r h = subst (λ l. P x y l) r (subst (λ l. P x l c) q (subst (λ l. P l b c) p h))

-- the counts behind a dimension, as they stand for it
pub behind-at : (ns olds news : List ℕ) (k all cut : ℕ) → IsCounted (drop (suc k) ns) (drop (suc k) olds) (drop (suc k) news) all cut
    → IsCounted (drop 1 (take (length ns - k) (drop k ns))) (drop 1 (take (length olds - k) (drop k olds))) (drop 1 (take (length news - k) (drop k news))) all cut
behind-at ns olds news k all cut counts =
    along_three (λ a b c. IsCounted a b c all cut) _ _ _ _ _ _ (sym (rest_is ns k (suc k) refl)) (sym (rest_is olds k (suc k) refl)) (sym (rest_is news k (suc k) refl)) counts

-- one number more of the chunk
pub next-number : (ns olds news chunk more : List ℕ) (k turn place index rest : ℕ) (was now : Bool) (goal : List ℕ) → turn ≡ suc k → more ≡ chunk ++ index ∷ []
    → chunk ++ slice_index_or (chunks_of was (drop k ns) (drop k olds) (drop k news)) place [] ≡ goal
    → slice_index_or (chunks_of was (take (length ns - k) (drop k ns)) (take (length olds - k) (drop k olds)) (take (length news - k) (drop k news))) place []
    ≡ index ∷ slice_index_or (chunks_of now (drop 1 (take (length ns - k) (drop k ns))) (drop 1 (take (length olds - k) (drop k olds))) (drop 1 (take (length news - k) (drop k news)))) rest []
    → more ++ slice_index_or (chunks_of now (drop turn ns) (drop turn olds) (drop turn news)) rest [] ≡ goal
next-number ns olds news chunk more k turn place index rest was now goal is pushed so_far first =
    let here : slice_index_or (chunks_of was (drop k ns) (drop k olds) (drop k news)) place []
    ≡ index ∷ slice_index_or (chunks_of now (drop 1 (take (length ns - k) (drop k ns))) (drop 1 (take (length olds - k) (drop k olds))) (drop 1 (take (length news - k) (drop k news)))) rest [] =
    along_three (λ a b c. slice_index_or (chunks_of was a b c) place [] ≡ index ∷ slice_index_or (chunks_of now (drop 1 (take (length ns - k) (drop k ns))) (drop 1 (take (length olds - k) (drop k olds))) (drop 1 (take (length news - k) (drop k news)))) rest [])
    _ _ _ _ _ _ (whole_rest ns k) (whole_rest olds k) (whole_rest news k) first in
    let both : slice_index_or (chunks_of was (drop k ns) (drop k olds) (drop k news)) place [] ≡ index ∷ slice_index_or (chunks_of now (drop turn ns) (drop turn olds) (drop turn news)) rest [] =
    along_three (λ a b c. slice_index_or (chunks_of was (drop k ns) (drop k olds) (drop k news)) place [] ≡ index ∷ slice_index_or (chunks_of now a b c) rest [])
    _ _ _ _ _ _ (rest_is ns k turn is) (rest_is olds k turn is) (rest_is news k turn is) here in
    ap (λ l. l ++ slice_index_or (chunks_of now (drop turn ns) (drop turn olds) (drop turn news)) rest []) pushed
    ∙ append_assoc chunk (index ∷ []) (slice_index_or (chunks_of now (drop turn ns) (drop turn olds) (drop turn news)) rest [])
    ∙ ap (λ l. chunk ++ l) (sym both) ∙ so_far

pub below-next : (ns olds news : List ℕ) (k turn rest : ℕ) (now : Bool) → turn ≡ suc k
    → rest < length (chunks_of now (drop 1 (take (length ns - k) (drop k ns))) (drop 1 (take (length olds - k) (drop k olds))) (drop 1 (take (length news - k) (drop k news))))
    → rest < length (chunks_of now (drop turn ns) (drop turn olds) (drop turn news))
below-next ns olds news k turn rest now is below =
    along_three (λ a b c. rest < length (chunks_of now a b c)) _ _ _ _ _ _ (rest_is ns k turn is) (rest_is olds k turn is) (rest_is news k turn is) below
