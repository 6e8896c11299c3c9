-- What stands in rows of elements, and where.
use Rattle.std.proofs.Common.{◌≡◌, ℕ, zero, suc, ◌+◌, ◌*◌, ◌<◌, ◌≤◌, List, [], ◌∷◌, ◌++◌, length, get_or, take, drop, Bool, sym, ap, ◌∙◌, arith, zero-add}
use Rattle.std.specs.List.{flat_map, range_with_len}
use Rattle.std.proofs.Math.Nat.{suc-mul, mul-le-mul_left}
use Rattle.std.proofs.Math.Seq.{drop-append-add, take-length}
use Rattle.std.proofs.lemmas.List.{drop-append-le, take-append-le, length-drop}
use Rattle.std.proofs.lemmas.List.FromFn.{length-range_with_len, get_or-range_with_len}
use Rattle.cells.specs.Bytes.{byte_count, word_bytes}
use Rattle.cells.specs.Places.{cell_count, IsInside, c_place, f_place}
use Rattle.cells.specs.declared.dtype.Dtype.{Dtype}
use Rattle.cells.proofs.Laws.{length-word_bytes, c_place-lt}
use Rattle.chunk_elements.specs.Rows.{elements_of_rows}
use Rattle.chunk_elements.proofs.FitLaws.{Fit}
use Rattle.chunk_elements.proofs.RowLaws.{length-rows}

-- a part of one of rows of one length
pub part_of_rows : (row : ℕ → List ℕ) (len : ℕ) → ((i : ℕ) → length (row i) ≡ len) → (xs : List ℕ) (i j k : ℕ) → i < length xs → j + k ≤ len
    → take k (drop (i * len + j) (flat_map row xs)) ≡ take k (drop j (row (get_or xs i 0)))
part_of_rows row len each [] i j k within fits = absurd (omega arith)
part_of_rows row len each (x ∷ xs) zero j k within fits =
    let first : 0 * len + j ≡ j = omega arith in
    let most : j ≤ length (row x) = rw each (omega arith) in
    let enough : k ≤ length (drop j (row x)) = rw (length-drop, each x) (omega arith) in
    ap (λ n. take k (drop n (row x ++ flat_map row xs))) first
    ∙ ap (take k) (drop-append-le j (row x) (flat_map row xs) most)
    ∙ take-append-le k (drop j (row x)) (flat_map row xs) enough
part_of_rows row len each (x ∷ xs) (suc i) j k within fits =
    let past : suc i * len + j ≡ length (row x) + (i * len + j) = rw (each x, suc-mul) (omega arith) in
    ap (λ n. take k (drop n (row x ++ flat_map row xs))) past
    ∙ ap (take k) (drop-append-add (row x) (flat_map row xs) (i * len + j))
    ∙ part_of_rows row len each xs i j k (omega arith) fits

-- the same of numbered rows
pub part_of_range : (row : ℕ → List ℕ) (len : ℕ) → ((i : ℕ) → length (row i) ≡ len) → (n i j k : ℕ) → i < n → j + k ≤ len
    → take k (drop (i * len + j) (flat_map row (range_with_len 0 n))) ≡ take k (drop j (row i))
part_of_range row len each n i j k within fits =
    let all = length-range_with_len 0 n in
    let here : get_or (range_with_len 0 n) i 0 ≡ i = get_or-range_with_len 0 n i 0 within ∙ zero-add i in
    part_of_rows row len each (range_with_len 0 n) i j k (omega arith) fits ∙ ap (λ x. take k (drop j (row x))) here

-- there is an element for each cell of the sizes
pub length-elements_of_rows : (dtype : Dtype) (big : Bool) (block sizes : List ℕ) (stride from : ℕ) (words : List ℕ) → Fit block sizes → length (elements_of_rows dtype big block sizes stride from words) ≡ cell_count sizes * byte_count dtype
length-elements_of_rows dtype big [] [] stride from words fit = length-word_bytes dtype big (get_or words from 0) ∙ (let one : byte_count dtype ≡ 1 * byte_count dtype = omega arith in one)
length-elements_of_rows dtype big [] (s ∷ ss) stride from words fit = absurd fit
length-elements_of_rows dtype big (b ∷ bs) [] stride from words fit = absurd fit
length-elements_of_rows dtype big (b ∷ bs) (s ∷ ss) stride from words fit =
    length-rows (cell_count ss * byte_count dtype) (λ i. elements_of_rows dtype big bs ss (stride * b) (from + i * stride) words)
    (λ i. length-elements_of_rows dtype big bs ss (stride * b) (from + i * stride) words fit.1) (range_with_len 0 s)
    ∙ rw (length-range_with_len 0 s) (omega arith)

-- the element of an index vector is that of its word
pub element-elements_of_rows : (dtype : Dtype) (big : Bool) (block sizes index : List ℕ) (stride from : ℕ) (words : List ℕ) → Fit block sizes → IsInside sizes index
    → take (byte_count dtype) (drop (c_place sizes index * byte_count dtype) (elements_of_rows dtype big block sizes stride from words)) ≡ word_bytes dtype big (get_or words (from + stride * f_place block index) 0)
element-elements_of_rows dtype big [] [] [] stride from words fit within =
    let first : 0 * byte_count dtype ≡ 0 = omega arith in
    let here : from + stride * 0 ≡ from = omega arith in
    ap (λ n. take (byte_count dtype) (drop n (word_bytes dtype big (get_or words from 0)))) first
    ∙ ap (λ n. take n (word_bytes dtype big (get_or words from 0))) (sym (length-word_bytes dtype big (get_or words from 0)))
    ∙ take-length (word_bytes dtype big (get_or words from 0))
    ∙ ap (λ n. word_bytes dtype big (get_or words n 0)) (sym here)
element-elements_of_rows dtype big [] [] (i ∷ index) stride from words fit within = absurd within
element-elements_of_rows dtype big [] (s ∷ ss) index stride from words fit within = absurd fit
element-elements_of_rows dtype big (b ∷ bs) [] index stride from words fit within = absurd fit
element-elements_of_rows dtype big (b ∷ bs) (s ∷ ss) [] stride from words fit within = absurd within
element-elements_of_rows dtype big (b ∷ bs) (s ∷ ss) (i ∷ index) stride from words fit within =
    let item = byte_count dtype in
    let size = cell_count ss * item in
    let row = λ (k : ℕ). elements_of_rows dtype big bs ss (stride * b) (from + k * stride) words in
    let each : (k : ℕ) → length (row k) ≡ size = λ k. length-elements_of_rows dtype big bs ss (stride * b) (from + k * stride) words fit.1 in
    let less : c_place ss index < cell_count ss = c_place-lt ss index within.1 in
    let rows : item * (c_place ss index + 1) ≤ item * cell_count ss = mul-le-mul_left item (omega arith) in
    ap (λ n. take item (drop n (flat_map row (range_with_len 0 s)))) (place i (cell_count ss) (c_place ss index) item)
    ∙ part_of_range row size each s i (c_place ss index * item) item within.0 (omega (arith, rows))
    ∙ element-elements_of_rows dtype big bs ss index (stride * b) (from + i * stride) words fit.1 within.1
    ∙ ap (λ n. word_bytes dtype big (get_or words n 0)) (deeper stride from b i (f_place bs index))
  where
    place : (i cells p item : ℕ) → (i * cells + p) * item ≡ i * (cells * item) + p * item
    place i cells p item = omega arith

    deeper : (stride from b i f : ℕ) → from + i * stride + stride * b * f ≡ from + stride * (i + b * f)
    deeper stride from b i f = omega arith
