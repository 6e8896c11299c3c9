-- What stands in rows, and where.
use Rattle.std.proofs.Common.{◌≡◌, ℕ, zero, suc, ◌+◌, ◌*◌, ◌-◌, ◌<◌, ◌≤◌, List, [], ◌∷◌, ◌++◌, length, get_or, take, drop, replicate, Bool, ⊎_elim, refl, sym, ap, ◌∙◌, arith, length-append, zero-add}
use Rattle.std.specs.Prelude.{All}
use Rattle.std.specs.List.{flat_map, range_with_len}
use Rattle.std.proofs.Math.Nat.{suc-mul, mul-le-mul_left}
use Rattle.std.proofs.Math.ListN.{get_or-append, length-replicate}
use Rattle.std.proofs.lemmas.Bool.{cases_lt}
use Rattle.std.proofs.lemmas.List.{get_or-append-add, length-take-le}
use Rattle.std.proofs.lemmas.List.Concat.{get_or-flat_map}
use Rattle.std.proofs.lemmas.List.Elements.{All-append, All-replicate}
use Rattle.std.proofs.lemmas.List.FromFn.{length-range_with_len, get_or-range_with_len}
use Rattle.cells.specs.Numbers.{IsWord}
use Rattle.cells.specs.Bytes.{byte_count}
use Rattle.cells.specs.Places.{cell_count, IsInside, c_place, f_place}
use Rattle.cells.specs.declared.dtype.Dtype.{Dtype}
use Rattle.cells.proofs.Laws.{IsWord-word_of_bytes, c_place-lt}
use Rattle.chunk_elements.specs.Rows.{word_in, words_of_rows}
use Rattle.chunk_elements.proofs.FitLaws.{Fit, IsWord-zero}

-- rows of one length
pub length-rows : {A : Type 0} (len : ℕ) (row : ℕ → List A) → ((i : ℕ) → length (row i) ≡ len) → (xs : List ℕ) → length (flat_map row xs) ≡ length xs * len
length-rows len row each [] = omega arith
length-rows len row each (x ∷ xs) = length-append (row x) (flat_map row xs) ∙ rw (each x, length-rows len row each xs, suc-mul) (omega arith)

-- an item of rows of one length
get_or-rows : (row : ℕ → List ℕ) (len : ℕ) → ((i : ℕ) → length (row i) ≡ len) → (n i j : ℕ) → i < n → j < len → get_or (flat_map row (range_with_len 0 n)) (i * len + j) 0 ≡ get_or (row i) j 0
get_or-rows row len each n i j within less =
    let all = length-range_with_len 0 n in
    let front : length (take i (range_with_len 0 n)) ≡ i = length-take-le i (range_with_len 0 n) (omega arith) in
    let before : length (flat_map row (take i (range_with_len 0 n))) ≡ i * len = length-rows len row each (take i (range_with_len 0 n)) ∙ ap (λ k. k * len) front in
    let here : get_or (range_with_len 0 n) i 0 ≡ i = get_or-range_with_len 0 n i 0 within ∙ zero-add i in
    let j_within : j < length (row (get_or (range_with_len 0 n) i 0)) = rw each less in
    ap (λ k. get_or (flat_map row (range_with_len 0 n)) (k + j) 0) (sym before) ∙ get_or-flat_map row (range_with_len 0 n) i j 0 0 (omega arith) j_within ∙ ap (λ k. get_or (row k) j 0) here

get_or-zeros : (n k : ℕ) → get_or {A = ℕ} (replicate n 0) k 0 ≡ 0
get_or-zeros zero k = refl
get_or-zeros (suc n) zero = refl
get_or-zeros (suc n) (suc k) = get_or-zeros n k

-- an index vector inside stored sizes is inside the block
pub inside-fit : (block sizes index : List ℕ) → Fit block sizes → IsInside sizes index → IsInside block index
inside-fit [] [] [] fit within = tt
inside-fit [] [] (i ∷ index) fit within = absurd within
inside-fit [] (s ∷ ss) index fit within = absurd fit
inside-fit (b ∷ bs) [] index fit within = absurd fit
inside-fit (b ∷ bs) (s ∷ ss) [] fit within = absurd within
inside-fit (b ∷ bs) (s ∷ ss) (i ∷ index) fit within = (let less : i < s = within.0 in let most : s ≤ b = fit.0 in omega arith, inside-fit bs ss index fit.1 within.1)

rows_split : (s d b len : ℕ) → b ≡ s + d → s * len + d * len ≡ b * len
rows_split s d b len is = rw is (omega arith)

-- rows of one length and zeros, as many as there are rows to come
length-rows_and_zeros : (row : ℕ → List ℕ) (len b s : ℕ) → ((i : ℕ) → length (row i) ≡ len) → s ≤ b → length (flat_map row (range_with_len 0 s) ++ replicate ((b - s) * len) 0) ≡ b * len
length-rows_and_zeros row len b s each most =
    length-append (flat_map row (range_with_len 0 s)) (replicate ((b - s) * len) 0)
    ∙ rw (length-rows len row each (range_with_len 0 s), length-range_with_len 0 s, length-replicate {A = ℕ} ((b - s) * len) 0) (rows_split s (b - s) b len (omega arith))

get_or-stored_row : (row : ℕ → List ℕ) (zeros : List ℕ) (len s i j : ℕ) → ((k : ℕ) → length (row k) ≡ len) → i < s → j < len → get_or (flat_map row (range_with_len 0 s) ++ zeros) (i * len + j) 0 ≡ get_or (row i) j 0
get_or-stored_row row zeros len s i j each within less =
    let all : length (flat_map row (range_with_len 0 s)) ≡ s * len = length-rows len row each (range_with_len 0 s) ∙ ap (λ n. n * len) (length-range_with_len 0 s) in
    let rows : len * (i + 1) ≤ len * s = mul-le-mul_left len (omega arith) in
    get_or-append (flat_map row (range_with_len 0 s)) zeros 0 (i * len + j) (omega (arith, all, rows)) ∙ get_or-rows row len each s i j within less

get_or-zero_row : (row : ℕ → List ℕ) (len n s i j : ℕ) → ((k : ℕ) → length (row k) ≡ len) → s ≤ i → get_or (flat_map row (range_with_len 0 s) ++ replicate n 0) (i * len + j) 0 ≡ 0
get_or-zero_row row len n s i j each past =
    let all : length (flat_map row (range_with_len 0 s)) ≡ s * len = length-rows len row each (range_with_len 0 s) ∙ ap (λ n. n * len) (length-range_with_len 0 s) in
    let place : i * len + j ≡ length (flat_map row (range_with_len 0 s)) + ((i - s) * len + j) = rw all (place_past s (i - s) i len j (omega arith)) in
    ap (λ k. get_or (flat_map row (range_with_len 0 s) ++ replicate n 0) k 0) place
    ∙ get_or-append-add (flat_map row (range_with_len 0 s)) (replicate n 0) ((i - s) * len + j) 0
    ∙ get_or-zeros n ((i - s) * len + j)
  where
    place_past : (s d i len j : ℕ) → i ≡ s + d → i * len + j ≡ s * len + (d * len + j)
    place_past s d i len j is = rw is (omega arith)

-- there is a word for each cell of the block
pub length-words_of_rows : (dtype : Dtype) (big : Bool) (block sizes : List ℕ) (stride from : ℕ) (elements : List ℕ) → Fit block sizes → length (words_of_rows dtype big block sizes stride from elements) ≡ cell_count block
length-words_of_rows dtype big [] [] stride from elements fit = refl
length-words_of_rows dtype big [] (s ∷ ss) stride from elements fit = absurd fit
length-words_of_rows dtype big (b ∷ bs) [] stride from elements fit = absurd fit
length-words_of_rows dtype big (b ∷ bs) (s ∷ ss) stride from elements fit =
    length-rows_and_zeros (λ i. words_of_rows dtype big bs ss (stride * s) (from + i * stride) elements) (cell_count bs) b s
    (λ i. length-words_of_rows dtype big bs ss (stride * s) (from + i * stride) elements fit.1) fit.0

-- the word of a stored cell is that of its element
pub get_or-words_of_rows : (dtype : Dtype) (big : Bool) (block sizes index : List ℕ) (stride from : ℕ) (elements : List ℕ) → Fit block sizes → IsInside sizes index
    → get_or (words_of_rows dtype big block sizes stride from elements) (c_place block index) 0 ≡ word_in dtype big elements (from + stride * f_place sizes index)
get_or-words_of_rows dtype big [] [] [] stride from elements fit within = ap (word_in dtype big elements) (let same : from ≡ from + stride * 0 = omega arith in same)
get_or-words_of_rows dtype big [] [] (i ∷ index) stride from elements fit within = absurd within
get_or-words_of_rows dtype big [] (s ∷ ss) index stride from elements fit within = absurd fit
get_or-words_of_rows dtype big (b ∷ bs) [] index stride from elements fit within = absurd fit
get_or-words_of_rows dtype big (b ∷ bs) (s ∷ ss) [] stride from elements fit within = absurd within
get_or-words_of_rows dtype big (b ∷ bs) (s ∷ ss) (i ∷ index) stride from elements fit within =
    get_or-stored_row (λ k. words_of_rows dtype big bs ss (stride * s) (from + k * stride) elements) (replicate ((b - s) * cell_count bs) 0) (cell_count bs) s i (c_place bs index)
    (λ k. length-words_of_rows dtype big bs ss (stride * s) (from + k * stride) elements fit.1) within.0 (c_place-lt bs index (inside-fit bs ss index fit.1 within.1))
    ∙ get_or-words_of_rows dtype big bs ss index (stride * s) (from + i * stride) elements fit.1 within.1
    ∙ ap (word_in dtype big elements) (deeper stride from s i (f_place ss index))
  where
    deeper : (stride from s i f : ℕ) → from + i * stride + stride * s * f ≡ from + stride * (i + s * f)
    deeper stride from s i f = omega arith

-- the word of a cell that isn't stored is 0
pub get_or-lacking : (dtype : Dtype) (big : Bool) (block sizes index : List ℕ) (stride from : ℕ) (elements : List ℕ) → Fit block sizes → IsInside block index → ¬ IsInside sizes index
    → get_or (words_of_rows dtype big block sizes stride from elements) (c_place block index) 0 ≡ 0
get_or-lacking dtype big [] [] [] stride from elements fit within lacking = absurd (lacking tt)
get_or-lacking dtype big [] [] (i ∷ index) stride from elements fit within lacking = absurd within
get_or-lacking dtype big [] (s ∷ ss) index stride from elements fit within lacking = absurd fit
get_or-lacking dtype big (b ∷ bs) [] index stride from elements fit within lacking = absurd fit
get_or-lacking dtype big (b ∷ bs) (s ∷ ss) [] stride from elements fit within lacking = absurd within
get_or-lacking dtype big (b ∷ bs) (s ∷ ss) (i ∷ index) stride from elements fit within lacking =
    let row = λ (k : ℕ). words_of_rows dtype big bs ss (stride * s) (from + k * stride) elements in
    let each : (k : ℕ) → length (row k) ≡ cell_count bs = λ k. length-words_of_rows dtype big bs ss (stride * s) (from + k * stride) elements fit.1 in
    ⊎_elim
    (λ less. get_or-stored_row row (replicate ((b - s) * cell_count bs) 0) (cell_count bs) s i (c_place bs index) each less (c_place-lt bs index within.1)
    ∙ get_or-lacking dtype big bs ss index (stride * s) (from + i * stride) elements fit.1 within.1 (λ inside. lacking (less, inside)))
    (λ past. get_or-zero_row row (cell_count bs) ((b - s) * cell_count bs) s i (c_place bs index) each past)
    (cases_lt i s)

all_one : (P : ℕ → Type 0) (w : ℕ) → P w → (k d : ℕ) → k < 1 → P (get_or (w ∷ []) k d)
all_one P w is zero d less = is
all_one P w is (suc k) d less = absurd (omega arith)

All-flat_map : (P : ℕ → Type 0) (row : ℕ → List ℕ) (xs : List ℕ) → ((i : ℕ) → All P (row i)) → All P (flat_map row xs)
All-flat_map P row [] each = λ k d less. absurd (omega arith)
All-flat_map P row (x ∷ xs) each = All-append P (row x) (flat_map row xs) (each x) (All-flat_map P row xs each)

-- all are words of the dtype
pub All-words_of_rows : (dtype : Dtype) (big : Bool) (block sizes : List ℕ) (stride from : ℕ) (elements : List ℕ) → Fit block sizes → All (IsWord dtype) (words_of_rows dtype big block sizes stride from elements)
All-words_of_rows dtype big [] [] stride from elements fit = all_one (IsWord dtype) (word_in dtype big elements from) (IsWord-word_of_bytes dtype big (take (byte_count dtype) (drop from elements)))
All-words_of_rows dtype big [] (s ∷ ss) stride from elements fit = absurd fit
All-words_of_rows dtype big (b ∷ bs) [] stride from elements fit = absurd fit
All-words_of_rows dtype big (b ∷ bs) (s ∷ ss) stride from elements fit =
    All-append (IsWord dtype) (flat_map (λ i. words_of_rows dtype big bs ss (stride * s) (from + i * stride) elements) (range_with_len 0 s)) (replicate ((b - s) * cell_count bs) 0)
    (All-flat_map (IsWord dtype) (λ i. words_of_rows dtype big bs ss (stride * s) (from + i * stride) elements) (range_with_len 0 s) (λ i. All-words_of_rows dtype big bs ss (stride * s) (from + i * stride) elements fit.1))
    (All-replicate (IsWord dtype) ((b - s) * cell_count bs) 0 (IsWord-zero dtype))
