-- Rows, one after another.
use Rattle.std.proofs.Common.{◌≡◌, ℕ, zero, suc, ◌+◌, ◌*◌, ◌-◌, ◌<◌, ◌≤◌, ◌^◌, List, [], ◌∷◌, ◌++◌, length, get_or, take, drop, replicate, Bool, refl, sym, ap, ◌∙◌, arith, add-zero, zero-add}
use Rattle.std.specs.List.{flat_map, range_with_len}
use Rattle.std.proofs.Math.Nat.{mul-le-mul_left}
use Rattle.std.proofs.Math.Seq.{take-append_seam, take-length}
use Rattle.std.proofs.lemmas.List.{flat_map_more}
use Rattle.cells.specs.Places.{cell_count}
use Rattle.cells.specs.declared.dtype.Dtype.{Dtype}
use Rattle.chunk_elements.specs.Blocks.{AreWithin}
use Rattle.chunk_elements.specs.Rows.{words_of_rows}

-- the sizes behind the first
abbrev pub behind : List ℕ → List ℕ
behind sizes = take (length sizes - 1) (drop 1 sizes)

pub behind-cons : (s : ℕ) (ss : List ℕ) → behind (s ∷ ss) ≡ ss
behind-cons s ss = let n : length (s ∷ ss) - 1 ≡ length ss = omega arith in rw n (take-length ss)

-- a first size fits, and so do those behind it
pub within-first : (b s : ℕ) (bs ss : List ℕ) → AreWithin (b ∷ bs) (s ∷ ss) → s ≤ b
within-first b s bs ss within = within.fit 0 (omega arith)

pub within-behind : (b s : ℕ) (bs ss : List ℕ) → AreWithin (b ∷ bs) (s ∷ ss) → AreWithin bs ss
within-behind b s bs ss within = record {
  ranks = let r : length (s ∷ ss) ≡ length (b ∷ bs) = within.ranks in omega arith;
  fit = λ k less. within.fit (suc k) (omega arith);
}

-- what a row of elements needs, and that its numbers fit
pub record ReadsRow (b s p q stride from i item len : ℕ) : Type 0 where
  pub cells : 0 < p
  pub room : from + i * stride + stride * s * q + item ≤ len + stride * s
  pub fits : stride * s * p ≤ 2 ^ 27
  pub stride_fits : stride * s ≤ 2 ^ 27
  pub step_fits : i * stride ≤ 2 ^ 27
  pub from_fits : from + i * stride ≤ 2 ^ 28 + 2 ^ 27

reads_row_by_numbers : (b s p q stride from i item len : ℕ) → s ≤ b → 0 < b * p → from + stride * (s * q) + item ≤ len + stride → stride * (b * p) ≤ 2 ^ 27 → len ≤ 2 ^ 27 → i < s → ReadsRow b s p q stride from i item len
reads_row_by_numbers b s zero q stride from i item len most some room fits small within = absurd (omega arith)
reads_row_by_numbers b s (suc p) q stride from i item len most some room fits small within =
    let steps : stride * (i + 1) ≤ stride * s = mul-le-mul_left stride (omega arith) in
    let more : stride * s ≤ stride * b = mul-le-mul_left stride most in
    let rows : p * (stride * s) ≤ p * (stride * b) = mul-le-mul_left p more in
    record {
      cells = omega arith;
      room = omega (arith, steps);
      fits = omega (arith, more, rows);
      stride_fits = omega (arith, more, rows);
      step_fits = omega (arith, steps, more, rows);
      from_fits = omega (arith, steps, more, rows);
    }

pub reads_row : (block sizes : List ℕ) (stride from i item len : ℕ) → 1 ≤ length block → 1 ≤ length sizes → AreWithin block sizes → 0 < cell_count block
    → from + stride * cell_count sizes + item ≤ len + stride → stride * cell_count block ≤ 2 ^ 27 → len ≤ 2 ^ 27 → i < get_or sizes 0 0
    → (length (behind block) < length block) × AreWithin (behind block) (behind sizes)
    × ReadsRow (get_or block 0 0) (get_or sizes 0 0) (cell_count (behind block)) (cell_count (behind sizes)) stride from i item len
reads_row [] sizes stride from i item len one one' within some room fits small less = absurd (omega arith)
reads_row (b ∷ bs) [] stride from i item len one one' within some room fits small less = absurd (omega arith)
reads_row (b ∷ bs) (s ∷ ss) stride from i item len one one' within some room fits small less =
    rw (behind-cons b bs, behind-cons s ss)
    (omega arith, within-behind b s bs ss within, reads_row_by_numbers b s (cell_count bs) (cell_count ss) stride from i item len (within-first b s bs ss within) some room fits small less)

-- a number more
range_more : (a n : ℕ) → range_with_len a (n + 1) ≡ range_with_len a n ++ (a + n) ∷ []
range_more a zero = rw add-zero refl
range_more a (suc n) =
    let up : suc n + 1 ≡ suc (n + 1) = omega arith in
    let along : a + 1 + n ≡ a + suc n = omega arith in
    rw up (ap (λ l. a ∷ l) (range_more (a + 1) n ∙ rw along refl))

-- a row more
pub rows_more : (row : ℕ → List ℕ) (before out more : List ℕ) (i : ℕ) → out ≡ before ++ flat_map row (range_with_len 0 i) → more ≡ out ++ row i → more ≡ before ++ flat_map row (range_with_len 0 (i + 1))
rows_more row before out more i is next =
    next ∙ rw is (flat_map_more row before (range_with_len 0 i) i ∙ ap (λ l. before ++ flat_map row l) (sym (range_more 0 i ∙ rw zero-add refl)))

-- the rows behind the first dimension have no more cells than the block
pub behind_fits : (block : List ℕ) → 1 ≤ length block → 0 < cell_count block → cell_count block ≤ 2 ^ 24 → cell_count (behind block) ≤ 2 ^ 24
behind_fits [] one some fits = absurd (omega arith)
behind_fits (zero ∷ bs) one some fits = absurd (omega arith)
behind_fits (suc b ∷ bs) one some fits = rw behind-cons (omega arith)

-- the rows that are stored and the ones that aren't, one after another
pub words_of_all_rows : (dtype : Dtype) (big : Bool) (block sizes : List ℕ) (stride from : ℕ) (elements : List ℕ) → 1 ≤ length block → 1 ≤ length sizes
    → flat_map (λ i. words_of_rows dtype big (behind block) (behind sizes) (stride * get_or sizes 0 0) (from + i * stride) elements) (range_with_len 0 (get_or sizes 0 0))
    ++ replicate ((get_or block 0 0 - get_or sizes 0 0) * cell_count (behind block)) 0
    ≡ words_of_rows dtype big block sizes stride from elements
words_of_all_rows dtype big [] sizes stride from elements one one' = absurd (omega arith)
words_of_all_rows dtype big (b ∷ bs) [] stride from elements one one' = absurd (omega arith)
words_of_all_rows dtype big (b ∷ bs) (s ∷ ss) stride from elements one one' = rw (behind-cons b bs, behind-cons s ss) refl

-- what was written over whole contents
pub whole_over : (n : ℕ) (new rest : List ℕ) → length new ≡ n → take n (new ++ rest) ≡ new
whole_over n new rest is = ap (λ k. take k (new ++ rest)) (sym is) ∙ take-append_seam new rest
