-- Rows of elements, one more.
use Rattle.std.proofs.Common.{◌≡◌, ⊎_elim, ℕ, false, All, drop_of_length-le, zero, suc, ◌+◌, ◌*◌, ◌-◌, ◌<◌, ◌≤◌, ◌^◌, Bool, List, [], ◌∷◌, ◌++◌, length, get_or, take, drop, replicate, refl, sym, ap, ◌∙◌, arith}
use Rattle.std.specs.List.{flat_map, range_with_len}
use Rattle.std.proofs.Math.Nat.{mul-le-mul, mul-le-mul_left}
use Rattle.std.proofs.Math.Seq.{take-append_seam, take-length}
use Rattle.std.proofs.lemmas.List.{length-drop, length-take-le}
use lib.ListN.{get_or-eq_default}
use Rattle.std.proofs.lemmas.Bool.{cases_lt}
use Rattle.std.proofs.lemmas.Slice.{take-put_mid}
use borrow.Rule.Slice.PartMut.{put_mid}
use Rattle.cells.specs.Bytes.{byte_count, word_bytes, word_of_bytes}
use Rattle.cells.specs.Items.{SpellsItems}
use Rattle.cells.specs.Numbers.{IsWord}
use Rattle.cells.specs.Places.{cell_count}
use Rattle.cells.proofs.Laws.{word_of_bytes-word_bytes}
use Rattle.cells.specs.declared.dtype.Dtype.{Dtype}
use Rattle.cells.specs.declared.dtype.Dtype.TheVariants.{I8, U8, I16, U16, I32, U32, I64, U64}
use Rattle.chunk_elements.specs.Blocks.{AreWithin}
use Rattle.chunk_elements.specs.Rows.{elements_of_rows, moved_rows, of_long, word_in}
use Rattle.chunk_elements.proofs.FitLaws.{cell_count-within, fit_from_within}
use Rattle.chunk_elements.proofs.LongLaws.{elements_of_rows-of_long}
use Rattle.chunk_elements.proofs.RowSteps.{behind, behind-cons, behind_fits, rows_more, within-behind}

-- a row's elements lie among those of all rows, which are few
pub puts_part : (block sizes : List ℕ) (i item : ℕ) → 1 ≤ length block → 1 ≤ length sizes → AreWithin block sizes → cell_count block ≤ 2 ^ 24 → item ≤ 8 → i < get_or sizes 0 0
    → (i * (cell_count (behind sizes) * item) + cell_count (behind sizes) * item ≤ cell_count sizes * item) × (cell_count sizes * item ≤ 2 ^ 27) × (cell_count (behind sizes) ≤ 2 ^ 24)
puts_part [] sizes i item one one' within fits most less = absurd (omega arith)
puts_part (b ∷ bs) [] i item one one' within fits most less = absurd (omega arith)
puts_part (b ∷ bs) (s ∷ ss) i item one one' within fits most less =
    let all = cell_count-within (b ∷ bs) (s ∷ ss) within in
    let few : s * cell_count ss ≤ 2 ^ 24 = omega (arith, all, fits) in
    let cells : cell_count ss * (i + 1) ≤ cell_count ss * s = mul-le-mul_left (cell_count ss) (omega arith) in
    let rows : cell_count ss * item * (i + 1) ≤ cell_count ss * item * s = mul-le-mul_left (cell_count ss * item) (omega arith) in
    let bytes : s * cell_count ss * item ≤ 2 ^ 24 * 8 = mul-le-mul few most in
    rw (behind-cons s ss) (omega (arith, rows), omega (arith, bytes), omega (arith, cells, few))

-- a row more
pub put_more : (row : ℕ → List ℕ) (i part : ℕ) (out new : List ℕ) → take (i * part) out ≡ flat_map row (range_with_len 0 i) → new ≡ row i → length new ≡ i * part + part - i * part → i * part ≤ length out
    → take ((i + 1) * part) (put_mid (i * part) (i * part + part - i * part) out new) ≡ flat_map row (range_with_len 0 (i + 1))
put_more row i part out new was is long within =
    let end : (i + 1) * part ≡ i * part + length new = omega (arith, long) in
    rows_more row [] (take (i * part) out) _ i was (take-put_mid (i * part) (i * part + part - i * part) out new ((i + 1) * part) end within ∙ ap (λ l. take (i * part) out ++ l) is)

-- all rows
pub all_put : (dtype : Dtype) (to : Bool) (block sizes : List ℕ) (stride from : ℕ) (items out : List ℕ) (i part item : ℕ) → 1 ≤ length block → 1 ≤ length sizes
    → i ≡ get_or sizes 0 0 → part ≡ cell_count (behind sizes) * item → length out ≡ cell_count sizes * item
    → take (i * part) out ≡ flat_map (λ k. moved_rows dtype to (behind block) (behind sizes) (stride * get_or block 0 0) (from + k * stride) items) (range_with_len 0 i)
    → out ≡ moved_rows dtype to block sizes stride from items
all_put dtype to [] sizes stride from items out i part item one one' end same len was = absurd (omega arith)
all_put dtype to (b ∷ bs) [] stride from items out i part item one one' end same len was = absurd (omega arith)
all_put dtype to (b ∷ bs) (s ∷ ss) stride from items out i part item one one' end same len was =
    let whole : length out ≡ i * part = len ∙ apart s (cell_count ss) item ∙ ap (λ n. s * n) (sym (same ∙ rw (behind-cons s ss) refl)) ∙ ap (λ n. n * part) (sym end) in
    let rows : flat_map (λ k. moved_rows dtype to (behind (b ∷ bs)) (behind (s ∷ ss)) (stride * b) (from + k * stride) items) (range_with_len 0 s) ≡ moved_rows dtype to (b ∷ bs) (s ∷ ss) stride from items =
    rw (behind-cons b bs, behind-cons s ss) refl in
    sym (take-length out) ∙ ap (λ n. take n out) whole ∙ was
    ∙ ap (λ n. flat_map (λ k. moved_rows dtype to (behind (b ∷ bs)) (behind (s ∷ ss)) (stride * b) (from + k * stride) items) (range_with_len 0 n)) end ∙ rows
  where
    apart : (s p b : ℕ) → s * p * b ≡ s * (p * b)
    apart s p b = omega arith

-- the sizes behind the first fit, and are few
pub few_behind : (block sizes : List ℕ) → 1 ≤ length block → 1 ≤ length sizes → AreWithin block sizes → 0 < cell_count block → cell_count block ≤ 2 ^ 24
    → AreWithin (behind block) (behind sizes) × (cell_count (behind sizes) ≤ 2 ^ 24)
few_behind [] sizes one one' within some fits = absurd (omega arith)
few_behind (b ∷ bs) [] one one' within some fits = absurd (omega arith)
few_behind (b ∷ bs) (s ∷ ss) one one' within some fits =
    let all = cell_count-within bs ss (within-behind b s bs ss within) in
    let few : cell_count bs ≤ 2 ^ 24 = rw (sym (ap cell_count (behind-cons b bs))) (behind_fits (b ∷ bs) one some fits) in
    rw (behind-cons b bs, behind-cons s ss) (within-behind b s bs ss within, omega (arith, all, few))

-- a part of elements is as long as it is
pub part_length : (a k n : ℕ) (out : List ℕ) → a + k ≤ length out → k ≡ n → length (take (a + k - a) (drop a out)) ≡ n
part_length a k n out fits is =
    let len : a + k - a ≡ k = omega arith in
    length-take-le (a + k - a) (drop a out) (rw length-drop (omega (arith, fits))) ∙ len ∙ is

-- no bytes spell zero
no_item : (dtype : Dtype) → word_of_bytes dtype false [] ≡ 0
no_item I8 = refl
no_item U8 = refl
no_item I16 = refl
no_item U16 = refl
no_item I32 = refl
no_item U32 = refl
no_item I64 = refl
no_item U64 = refl

take-none : (n : ℕ) → take {A = ℕ} n [] ≡ []
take-none zero = refl
take-none (suc n) = refl

-- the item at a place is its word's, and zero where there is none
pub item_word : (dtype : Dtype) (items words : List ℕ) → SpellsItems dtype items words → All (IsWord dtype) words → (p : ℕ) → word_in dtype false items (p * byte_count dtype) ≡ get_or words p 0
item_word dtype items words spells are p = ⊎_elim (here p) (past p) (cases_lt p (length words))
  where
    here : (p : ℕ) → p < length words → word_in dtype false items (p * byte_count dtype) ≡ get_or words p 0
    here p less = ap (word_of_bytes dtype false) (spells.items p less) ∙ word_of_bytes-word_bytes dtype false (get_or words p 0) (are p 0 less)

    past : (p : ℕ) → length words ≤ p → word_in dtype false items (p * byte_count dtype) ≡ get_or words p 0
    past p beyond =
        let rows : byte_count dtype * length words ≤ byte_count dtype * p = mul-le-mul_left (byte_count dtype) beyond in
        let none : drop (p * byte_count dtype) items ≡ [] = drop_of_length-le items (omega (arith, rows, spells.count)) in
        ap (λ l. word_of_bytes dtype false (take (byte_count dtype) l)) none ∙ ap (word_of_bytes dtype false) (take-none (byte_count dtype)) ∙ no_item dtype ∙ sym (get_or-eq_default words 0 beyond)

-- rows that are the same one by one are the same
rows_same : (f g : ℕ → List ℕ) → ((i : ℕ) → f i ≡ g i) → (xs : List ℕ) → flat_map f xs ≡ flat_map g xs
rows_same f g each [] = refl
rows_same f g each (x ∷ xs) = ap (λ l. l ++ flat_map f xs) (each x) ∙ ap (λ l. g x ++ l) (rows_same f g each xs)

-- the elements of items are those of their words
pub rows_of_words : (dtype : Dtype) (to : Bool) (block sizes : List ℕ) (stride from : ℕ) (items words : List ℕ) → ((p : ℕ) → word_in dtype false items (p * byte_count dtype) ≡ get_or words p 0)
    → moved_rows dtype to block sizes (stride * byte_count dtype) (from * byte_count dtype) items ≡ elements_of_rows dtype to block sizes stride from words
rows_of_words dtype to block [] stride from items words each = ap (word_bytes dtype to) (each from)
rows_of_words dtype to [] (s ∷ ss) stride from items words each = refl
rows_of_words dtype to (b ∷ bs) (s ∷ ss) stride from items words each =
    rows_same (λ i. moved_rows dtype to bs ss (stride * byte_count dtype * b) (from * byte_count dtype + i * (stride * byte_count dtype)) items) (λ i. elements_of_rows dtype to bs ss (stride * b) (from + i * stride) words)
    (λ i. ap (λ n. moved_rows dtype to bs ss n (from * byte_count dtype + i * (stride * byte_count dtype)) items) (wider stride (byte_count dtype) b)
    ∙ ap (λ n. moved_rows dtype to bs ss (stride * b * byte_count dtype) n items) (further from (byte_count dtype) i stride)
    ∙ rows_of_words dtype to bs ss (stride * b) (from + i * stride) items words each)
    (range_with_len 0 s)
  where
    wider : (s b m : ℕ) → s * b * m ≡ s * m * b
    wider s b m = omega arith

    further : (f b i s : ℕ) → f * b + i * (s * b) ≡ (f + i * s) * b
    further f b i s = omega arith

-- the elements of a block's items without dimensions of one stored cell are those of its words
pub put_long : (dtype : Dtype) (to : Bool) (block sizes most stored items words : List ℕ) → AreWithin block sizes → most ≡ of_long block block sizes → stored ≡ of_long sizes block sizes
    → SpellsItems dtype items words → All (IsWord dtype) words → moved_rows dtype to most stored (byte_count dtype) 0 items ≡ elements_of_rows dtype to block sizes 1 0 words
put_long dtype to block sizes most stored items words within m s spells are =
    let one : byte_count dtype ≡ 1 * byte_count dtype = omega arith in
    let first : 0 ≡ 0 * byte_count dtype = omega arith in
    ap (λ n. moved_rows dtype to most stored n 0 items) one ∙ ap (λ n. moved_rows dtype to most stored (1 * byte_count dtype) n items) first
    ∙ rows_of_words dtype to most stored 1 0 items words (item_word dtype items words spells are)
    ∙ ap (λ l. elements_of_rows dtype to l stored 1 0 words) m
    ∙ ap (λ l. elements_of_rows dtype to (of_long block block sizes) l 1 0 words) s
    ∙ elements_of_rows-of_long dtype to block sizes 1 0 words (fit_from_within block sizes within)

-- the bytes before a place stay
pub before_place : (start room : ℕ) (bytes all : List ℕ) → start ≡ length bytes → all ≡ bytes ++ replicate room 0 → take start all ≡ bytes
before_place start room bytes all is grown = ap (λ l. take start l) grown ∙ ap (λ n. take n (bytes ++ replicate room 0)) is ∙ take-append_seam bytes (replicate room 0)
