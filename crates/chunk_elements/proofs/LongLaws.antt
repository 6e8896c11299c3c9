-- Dimensions of one stored cell may be left out.
use Rattle.std.proofs.Common.{◌≡◌, inl, inr, ℕ, suc, ◌+◌, ◌*◌, ◌-◌, ◌<◌, ◌==◌, Bool, true, false, cond, List, [], ◌∷◌, ◌++◌, length, get_or, drop, replicate, refl, sym, ap, ◌∙◌, arith, drop-cons, append-nil, append_assoc, eqb-true, add-one}
use Rattle.std.specs.List.{flat_map, range_with_len}
use Rattle.cells.specs.Places.{cell_count}
use Rattle.cells.specs.declared.dtype.Dtype.{Dtype}
use Rattle.cells.proofs.Laws.{both, then_from, else_from, true_or_false}
use Rattle.chunk_elements.specs.Rows.{words_of_rows, elements_of_rows, is_single, of_long}
use Rattle.chunk_elements.proofs.FitLaws.{Fit}

-- one dimension more
pub of_long-from : (numbers block sizes : List ℕ) (k : ℕ) → length block ≡ length numbers → length sizes ≡ length numbers → k < length numbers
    → of_long (drop k numbers) (drop k block) (drop k sizes)
    ≡ cond (is_single (get_or block k 0) (get_or sizes k 0)) (of_long (drop (suc k) numbers) (drop (suc k) block) (drop (suc k) sizes))
    (get_or numbers k 0 ∷ of_long (drop (suc k) numbers) (drop (suc k) block) (drop (suc k) sizes))
of_long-from numbers block sizes k one other less =
    let in_block : k < length block = omega arith in
    let in_sizes : k < length sizes = omega arith in
    rw (drop-cons numbers k 0 less, drop-cons block k 0 in_block, drop-cons sizes k 0 in_sizes) refl

-- a number more that is kept, and one that isn't
pub long_kept : (numbers block sizes kept after whole : List ℕ) (k : ℕ) → length block ≡ length numbers → length sizes ≡ length numbers → k < length numbers
    → is_single (get_or block k 0) (get_or sizes k 0) ≡ false → after ≡ kept ++ get_or numbers k 0 ∷ []
    → kept ++ of_long (drop k numbers) (drop k block) (drop k sizes) ≡ whole → after ++ of_long (drop (k + 1) numbers) (drop (k + 1) block) (drop (k + 1) sizes) ≡ whole
long_kept numbers block sizes kept after whole k one other less isnt is so_far =
    let n = get_or numbers k 0 in
    let step : of_long (drop k numbers) (drop k block) (drop k sizes) ≡ n ∷ of_long (drop (k + 1) numbers) (drop (k + 1) block) (drop (k + 1) sizes) =
    of_long-from numbers block sizes k one other less ∙ else_from (is_single (get_or block k 0) (get_or sizes k 0)) _ _ isnt
    ∙ ap (λ m. n ∷ of_long (drop m numbers) (drop m block) (drop m sizes)) (sym (add-one k)) in
    ap (λ l. l ++ of_long (drop (k + 1) numbers) (drop (k + 1) block) (drop (k + 1) sizes)) is
    ∙ append_assoc kept (n ∷ []) (of_long (drop (k + 1) numbers) (drop (k + 1) block) (drop (k + 1) sizes))
    ∙ ap (λ l. kept ++ l) (sym step) ∙ so_far

pub long_left_out : (numbers block sizes kept whole : List ℕ) (k : ℕ) → length block ≡ length numbers → length sizes ≡ length numbers → k < length numbers
    → is_single (get_or block k 0) (get_or sizes k 0) ≡ true
    → kept ++ of_long (drop k numbers) (drop k block) (drop k sizes) ≡ whole → kept ++ of_long (drop (k + 1) numbers) (drop (k + 1) block) (drop (k + 1) sizes) ≡ whole
long_left_out numbers block sizes kept whole k one other less is so_far =
    let step : of_long (drop k numbers) (drop k block) (drop k sizes) ≡ of_long (drop (k + 1) numbers) (drop (k + 1) block) (drop (k + 1) sizes) =
    of_long-from numbers block sizes k one other less ∙ then_from (is_single (get_or block k 0) (get_or sizes k 0)) _ _ is
    ∙ ap (λ m. of_long (drop m numbers) (drop m block) (drop m sizes)) (sym (add-one k)) in
    ap (λ l. kept ++ l) (sym step) ∙ so_far

single : (b s : ℕ) → is_single b s ≡ true → (b ≡ 1) × (s ≡ 1)
single b s is = let parts = both (b == 1) (s == 1) is in (eqb-true b 1 parts.0, eqb-true s 1 parts.1)

-- what is left of the numbers where the first dimension is single, and where it isn't
of_long-single : (n b s : ℕ) (ns bs ss : List ℕ) → is_single b s ≡ true → of_long (n ∷ ns) (b ∷ bs) (s ∷ ss) ≡ of_long ns bs ss
of_long-single n b s ns bs ss is = then_from (is_single b s) (of_long ns bs ss) (n ∷ of_long ns bs ss) is

of_long-else : (n b s : ℕ) (ns bs ss : List ℕ) → is_single b s ≡ false → of_long (n ∷ ns) (b ∷ bs) (s ∷ ss) ≡ n ∷ of_long ns bs ss
of_long-else n b s ns bs ss is = else_from (is_single b s) (of_long ns bs ss) (n ∷ of_long ns bs ss) is

-- as many cells are left
pub cell_count-of_long : (block sizes : List ℕ) → Fit block sizes → cell_count (of_long block block sizes) ≡ cell_count block
cell_count-of_long [] [] fit = refl
cell_count-of_long [] (s ∷ ss) fit = absurd fit
cell_count-of_long (b ∷ bs) [] fit = absurd fit
cell_count-of_long (b ∷ bs) (s ∷ ss) fit = elim (true_or_false (is_single b s)) [
  | inl is ↦
      let one = (single b s is).0 in
      let same : cell_count bs ≡ b * cell_count bs = rw one (omega arith) in
      ap cell_count (of_long-single b b s bs bs ss is) ∙ cell_count-of_long bs ss fit.1 ∙ same
  | inr is ↦ ap cell_count (of_long-else b b s bs bs ss is) ∙ ap (λ n. b * n) (cell_count-of_long bs ss fit.1)
]

pub cell_count-of_long_sizes : (block sizes : List ℕ) → Fit block sizes → cell_count (of_long sizes block sizes) ≡ cell_count sizes
cell_count-of_long_sizes [] [] fit = refl
cell_count-of_long_sizes [] (s ∷ ss) fit = absurd fit
cell_count-of_long_sizes (b ∷ bs) [] fit = absurd fit
cell_count-of_long_sizes (b ∷ bs) (s ∷ ss) fit = elim (true_or_false (is_single b s)) [
  | inl is ↦
      let one = (single b s is).1 in
      let same : cell_count ss ≡ s * cell_count ss = rw one (omega arith) in
      ap cell_count (of_long-single s b s ss bs ss is) ∙ cell_count-of_long_sizes bs ss fit.1 ∙ same
  | inr is ↦ ap cell_count (of_long-else s b s ss bs ss is) ∙ ap (λ n. s * n) (cell_count-of_long_sizes bs ss fit.1)
]

-- what is left fits
pub fit-of_long : (block sizes : List ℕ) → Fit block sizes → Fit (of_long block block sizes) (of_long sizes block sizes)
fit-of_long [] [] fit = tt
fit-of_long [] (s ∷ ss) fit = absurd fit
fit-of_long (b ∷ bs) [] fit = absurd fit
fit-of_long (b ∷ bs) (s ∷ ss) fit = elim (true_or_false (is_single b s)) [
  | inl is ↦ rw (of_long-single b b s bs bs ss is, of_long-single s b s ss bs ss is) (fit-of_long bs ss fit.1)
  | inr is ↦ rw (of_long-else b b s bs bs ss is, of_long-else s b s ss bs ss is) (fit.0, fit-of_long bs ss fit.1)
]

flat_map-same : {A : Type 0} (f g : ℕ → List A) → ((i : ℕ) → f i ≡ g i) → (xs : List ℕ) → flat_map f xs ≡ flat_map g xs
flat_map-same f g same [] = refl
flat_map-same f g same (x ∷ xs) = rw (same x, flat_map-same f g same xs) refl

one_row : (dtype : Dtype) (big : Bool) (bs ss : List ℕ) (stride from : ℕ) (elements : List ℕ) → words_of_rows dtype big (1 ∷ bs) (1 ∷ ss) stride from elements ≡ words_of_rows dtype big bs ss stride from elements
one_row dtype big bs ss stride from elements =
    let row = λ (i : ℕ). words_of_rows dtype big bs ss (stride * 1) (from + i * stride) elements in
    let none : (1 - 1) * cell_count bs ≡ 0 = omega arith in
    let along : stride * 1 ≡ stride = omega arith in
    let first : from + 0 * stride ≡ from = omega arith in
    ap (λ n. (row 0 ++ []) ++ replicate n 0) none ∙ append-nil (row 0 ++ []) ∙ append-nil (row 0)
    ∙ ap (λ k. words_of_rows dtype big bs ss k (from + 0 * stride) elements) along
    ∙ ap (λ k. words_of_rows dtype big bs ss stride k elements) first

-- the words of a block are those of what is left of it
pub words_of_rows-of_long : (dtype : Dtype) (big : Bool) (block sizes : List ℕ) (stride from : ℕ) (elements : List ℕ) → Fit block sizes
    → words_of_rows dtype big (of_long block block sizes) (of_long sizes block sizes) stride from elements ≡ words_of_rows dtype big block sizes stride from elements
words_of_rows-of_long dtype big [] [] stride from elements fit = refl
words_of_rows-of_long dtype big [] (s ∷ ss) stride from elements fit = absurd fit
words_of_rows-of_long dtype big (b ∷ bs) [] stride from elements fit = absurd fit
words_of_rows-of_long dtype big (b ∷ bs) (s ∷ ss) stride from elements fit = elim (true_or_false (is_single b s)) [
  | inl is ↦
      let ones = single b s is in
      ap (λ l. words_of_rows dtype big l (of_long (s ∷ ss) (b ∷ bs) (s ∷ ss)) stride from elements) (of_long-single b b s bs bs ss is)
      ∙ ap (λ l. words_of_rows dtype big (of_long bs bs ss) l stride from elements) (of_long-single s b s ss bs ss is)
      ∙ words_of_rows-of_long dtype big bs ss stride from elements fit.1
      ∙ sym (one_row dtype big bs ss stride from elements)
      ∙ ap (λ n. words_of_rows dtype big (n ∷ bs) (1 ∷ ss) stride from elements) (sym ones.0)
      ∙ ap (λ n. words_of_rows dtype big (b ∷ bs) (n ∷ ss) stride from elements) (sym ones.1)
  | inr is ↦
      ap (λ l. words_of_rows dtype big l (of_long (s ∷ ss) (b ∷ bs) (s ∷ ss)) stride from elements) (of_long-else b b s bs bs ss is)
      ∙ ap (λ l. words_of_rows dtype big (b ∷ of_long bs bs ss) l stride from elements) (of_long-else s b s ss bs ss is)
      ∙ ap (λ l. l ++ replicate ((b - s) * cell_count (of_long bs bs ss)) 0)
      (flat_map-same (λ i. words_of_rows dtype big (of_long bs bs ss) (of_long ss bs ss) (stride * s) (from + i * stride) elements)
      (λ i. words_of_rows dtype big bs ss (stride * s) (from + i * stride) elements)
      (λ i. words_of_rows-of_long dtype big bs ss (stride * s) (from + i * stride) elements fit.1) (range_with_len 0 s))
      ∙ ap (λ n. flat_map (λ i. words_of_rows dtype big bs ss (stride * s) (from + i * stride) elements) (range_with_len 0 s) ++ replicate ((b - s) * n) 0) (cell_count-of_long bs ss fit.1)
]

one_row_of_elements : (dtype : Dtype) (big : Bool) (bs ss : List ℕ) (stride from : ℕ) (words : List ℕ) → elements_of_rows dtype big (1 ∷ bs) (1 ∷ ss) stride from words ≡ elements_of_rows dtype big bs ss stride from words
one_row_of_elements dtype big bs ss stride from words =
    let along : stride * 1 ≡ stride = omega arith in
    let first : from + 0 * stride ≡ from = omega arith in
    append-nil (elements_of_rows dtype big bs ss (stride * 1) (from + 0 * stride) words)
    ∙ ap (λ k. elements_of_rows dtype big bs ss k (from + 0 * stride) words) along
    ∙ ap (λ k. elements_of_rows dtype big bs ss stride k words) first

-- and so are its elements
pub elements_of_rows-of_long : (dtype : Dtype) (big : Bool) (block sizes : List ℕ) (stride from : ℕ) (words : List ℕ) → Fit block sizes
    → elements_of_rows dtype big (of_long block block sizes) (of_long sizes block sizes) stride from words ≡ elements_of_rows dtype big block sizes stride from words
elements_of_rows-of_long dtype big [] [] stride from words fit = refl
elements_of_rows-of_long dtype big [] (s ∷ ss) stride from words fit = absurd fit
elements_of_rows-of_long dtype big (b ∷ bs) [] stride from words fit = absurd fit
elements_of_rows-of_long dtype big (b ∷ bs) (s ∷ ss) stride from words fit = elim (true_or_false (is_single b s)) [
  | inl is ↦
      let ones = single b s is in
      ap (λ l. elements_of_rows dtype big l (of_long (s ∷ ss) (b ∷ bs) (s ∷ ss)) stride from words) (of_long-single b b s bs bs ss is)
      ∙ ap (λ l. elements_of_rows dtype big (of_long bs bs ss) l stride from words) (of_long-single s b s ss bs ss is)
      ∙ elements_of_rows-of_long dtype big bs ss stride from words fit.1
      ∙ sym (one_row_of_elements dtype big bs ss stride from words)
      ∙ ap (λ n. elements_of_rows dtype big (n ∷ bs) (1 ∷ ss) stride from words) (sym ones.0)
      ∙ ap (λ n. elements_of_rows dtype big (b ∷ bs) (n ∷ ss) stride from words) (sym ones.1)
  | inr is ↦
      ap (λ l. elements_of_rows dtype big l (of_long (s ∷ ss) (b ∷ bs) (s ∷ ss)) stride from words) (of_long-else b b s bs bs ss is)
      ∙ ap (λ l. elements_of_rows dtype big (b ∷ of_long bs bs ss) l stride from words) (of_long-else s b s ss bs ss is)
      ∙ flat_map-same (λ i. elements_of_rows dtype big (of_long bs bs ss) (of_long ss bs ss) (stride * b) (from + i * stride) words)
      (λ i. elements_of_rows dtype big bs ss (stride * b) (from + i * stride) words)
      (λ i. elements_of_rows-of_long dtype big bs ss (stride * b) (from + i * stride) words fit.1) (range_with_len 0 s)
]
