-- Rows of items, over zeros.
use Rattle.std.proofs.Common.{◌≡◌, ℕ, zero, suc, ◌+◌, ◌*◌, ◌-◌, ◌<◌, ◌≤◌, Bool, false, List, [], ◌∷◌, ◌++◌, All, ◌^◌, length, get_or, take, drop, replicate, refl, sym, ap, subst, ◌∙◌, arith}
use Rattle.std.specs.List.{flat_map, range_with_len}
use Rattle.std.proofs.lemmas.Grind.{flat_map-append}
use Rattle.std.proofs.Math.Nat.{mul-le-mul, mul-le-mul_left}
use Rattle.std.proofs.lemmas.List.{drop-drop, drop-replicate, replicate-append-replicate, take-append-drop, take-replicate}
use Rattle.std.proofs.lemmas.Slice.{drop-put_mid, take-put_mid}
use borrow.Rule.Slice.PartMut.{put_mid}
use Rattle.cells.specs.Bytes.{byte_count, word_bytes}
use Rattle.cells.specs.declared.dtype.Dtype.{Dtype}
use Rattle.cells.specs.declared.dtype.Dtype.TheVariants.{I8, U8, I16, U16, I32, U32, I64, U64}
use Rattle.cells.specs.Places.{cell_count}
use Rattle.cells.specs.Items.{SpellsItems}
use Rattle.cells.specs.Numbers.{IsWord}
use Rattle.chunk_elements.specs.Blocks.{AreStored, AreWithin}
use Rattle.chunk_elements.proofs.BlockLaws.{AreStored-words_of_rows}
use Rattle.chunk_elements.proofs.FitLaws.{fit_from_within}
use Rattle.chunk_elements.proofs.LongLaws.{words_of_rows-of_long}
use Rattle.chunk_elements.proofs.MoveLaws.{same_words}
use Rattle.chunk_elements.proofs.RowSteps.{behind, behind-cons, rows_more, within-first, words_of_all_rows}
use Rattle.chunk_elements.specs.Rows.{items_of, moved_row, of_long, word_in, words_of_rows}

-- the item of zero is zeros
zero_item : (dtype : Dtype) → word_bytes dtype false 0 ≡ replicate (byte_count dtype) 0
zero_item I8 = refl
zero_item U8 = refl
zero_item I16 = refl
zero_item U16 = refl
zero_item I32 = refl
zero_item U32 = refl
zero_item I64 = refl
zero_item U64 = refl

pub items-zeros : (dtype : Dtype) (n : ℕ) → items_of dtype (replicate n 0) ≡ replicate (n * byte_count dtype) 0
items-zeros dtype zero = ap (λ k. replicate k 0) (let here : 0 ≡ 0 * byte_count dtype = omega arith in here)
items-zeros dtype (suc n) =
    ap (λ l. l ++ items_of dtype (replicate n 0)) (zero_item dtype)
    ∙ ap (λ l. replicate (byte_count dtype) 0 ++ l) (items-zeros dtype n)
    ∙ replicate-append-replicate (byte_count dtype) (n * byte_count dtype) 0
    ∙ ap (λ k. replicate k 0) (let here : byte_count dtype + n * byte_count dtype ≡ suc n * byte_count dtype = omega arith in here)

-- the items of a row
items-singles : (dtype : Dtype) (f : ℕ → ℕ) (xs : List ℕ) → items_of dtype (flat_map (λ i. f i ∷ []) xs) ≡ flat_map (λ i. word_bytes dtype false (f i)) xs
items-singles dtype f [] = refl
items-singles dtype f (x ∷ xs) = ap (λ l. word_bytes dtype false (f x) ++ l) (items-singles dtype f xs)

-- the items of rows
pub items-rows : (dtype : Dtype) (f : ℕ → List ℕ) (xs : List ℕ) → items_of dtype (flat_map f xs) ≡ flat_map (λ i. items_of dtype (f i)) xs
items-rows dtype f [] = refl
items-rows dtype f (x ∷ xs) = flat_map-append (word_bytes dtype false) (f x) (flat_map f xs) ∙ ap (λ l. items_of dtype (f x) ++ l) (items-rows dtype f xs)

-- the last dimension is a row, and what isn't stored of it
pub last_taken : (dtype : Dtype) (big : Bool) (most size stride from item : ℕ) (elements old row : List ℕ) → item ≡ byte_count dtype → size ≤ most → old ≡ replicate (most * byte_count dtype) 0
    → row ≡ moved_row dtype big false size stride from elements → row ++ drop (size * item) old ≡ items_of dtype (words_of_rows dtype big (most ∷ []) (size ∷ []) stride from elements)
last_taken dtype big most size stride from item elements old row same fit zeros is =
    let f = λ (i : ℕ). word_in dtype big elements (from + i * stride) in
    let whole : most ≡ size + (most - size) = omega (arith, fit) in
    let left : drop (size * item) old ≡ replicate ((most - size) * 1 * byte_count dtype) 0 =
    ap (drop (size * item)) zeros ∙ drop-replicate (size * item) (most * byte_count dtype) 0
    ∙ ap (λ k. replicate k 0)
    (ap (λ n. n * byte_count dtype - size * item) whole ∙ ap (λ n. (size + (most - size)) * byte_count dtype - size * n) same ∙ apart size (most - size) (byte_count dtype)) in
    ap (λ l. row ++ l) left ∙ ap (λ l. l ++ replicate ((most - size) * 1 * byte_count dtype) 0) (is ∙ sym (items-singles dtype f (range_with_len 0 size)))
    ∙ ap (λ l. items_of dtype (flat_map (λ i. f i ∷ []) (range_with_len 0 size)) ++ l) (sym (items-zeros dtype ((most - size) * 1)))
    ∙ sym (flat_map-append (word_bytes dtype false) (flat_map (λ i. f i ∷ []) (range_with_len 0 size)) (replicate ((most - size) * 1) 0))
  where
    apart : (s k b : ℕ) → (s + k) * b - s * b ≡ k * 1 * b
    apart s k b = omega arith

-- a row's items lie among the block's, which are few
pub takes_part : (block sizes : List ℕ) (i item : ℕ) → 1 ≤ length block → 1 ≤ length sizes → AreWithin block sizes → cell_count block ≤ 2 ^ 24 → item ≤ 8 → i < get_or sizes 0 0
    → (i * (cell_count (behind block) * item) + cell_count (behind block) * item ≤ cell_count block * item) × (cell_count block * item ≤ 2 ^ 27) × (cell_count (behind block) * item ≤ 2 ^ 27)
takes_part [] sizes i item one one' within fits most less = absurd (omega arith)
takes_part (b ∷ bs) [] i item one one' within fits most less = absurd (omega arith)
takes_part (b ∷ bs) (s ∷ ss) i item one one' within fits most less =
    let first = within-first b s bs ss within in
    let rows : cell_count bs * item * (i + 1) ≤ cell_count bs * item * b = mul-le-mul_left (cell_count bs * item) (omega (arith, first)) in
    let all : b * cell_count bs * item ≤ 2 ^ 24 * 8 = mul-le-mul fits most in
    rw (behind-cons b bs) (omega (arith, rows), omega (arith, all), omega (arith, rows, all))

-- a part of zeros is zeros
pub zero_part : (a k n rest : ℕ) (out : List ℕ) → drop a out ≡ replicate rest 0 → k ≡ n → k ≤ rest → take (a + k - a) (drop a out) ≡ replicate n 0
zero_part a k n rest out zeros is fits =
    let len : a + k - a ≡ k = omega arith in
    ap (λ l. take (a + k - a) l) zeros ∙ ap (λ m. take m (replicate rest 0)) len ∙ take-replicate k rest 0 fits ∙ ap (λ m. replicate m 0) is

-- a row more, and zeros behind it
pub record IsTaken (row : ℕ → List ℕ) (len i part : ℕ) (out : List ℕ) : Type 0 where
  pub done : take (i * part) out ≡ flat_map row (range_with_len 0 i)
  pub rest : drop (i * part) out ≡ replicate (len - i * part) 0

pub taken_more : (row : ℕ → List ℕ) (len i part : ℕ) (out new : List ℕ) → IsTaken row len i part out → new ≡ row i → length new ≡ i * part + part - i * part → i * part ≤ length out
    → IsTaken row len (i + 1) part (put_mid (i * part) (i * part + part - i * part) out new)
taken_more row len i part out new was is long within =
    let end : (i + 1) * part ≡ i * part + length new = omega (arith, long) in
    let past : i * part + (i * part + part - i * part) ≤ (i + 1) * part = omega arith in
    let next : (i + 1) * part ≡ i * part + part = omega arith in
    let left : len - i * part - part ≡ len - (i + 1) * part = omega arith in
    record {
      done = rows_more row [] (take (i * part) out) _ i was.done
          (take-put_mid (i * part) (i * part + part - i * part) out new ((i + 1) * part) end within ∙ ap (λ l. take (i * part) out ++ l) is);
      rest =
          drop-put_mid (i * part) (i * part + part - i * part) out new ((i + 1) * part) past within long
          ∙ ap (λ n. drop n out) next ∙ sym (drop-drop part (i * part) out) ∙ ap (drop part) was.rest
          ∙ drop-replicate part (len - i * part) 0 ∙ ap (λ n. replicate n 0) left;
    }

-- all rows, and zeros behind them
pub all_taken : (dtype : Dtype) (big : Bool) (block sizes : List ℕ) (stride from : ℕ) (elements out : List ℕ) (i part : ℕ) → 1 ≤ length block → 1 ≤ length sizes → AreWithin block sizes
    → i ≡ get_or sizes 0 0 → part ≡ cell_count (behind block) * byte_count dtype
    → IsTaken (λ k. items_of dtype (words_of_rows dtype big (behind block) (behind sizes) (stride * get_or sizes 0 0) (from + k * stride) elements)) (cell_count block * byte_count dtype) i part out
    → out ≡ items_of dtype (words_of_rows dtype big block sizes stride from elements)
all_taken dtype big block sizes stride from elements out i part one one' within end same was =
    let w = λ (k : ℕ). words_of_rows dtype big (behind block) (behind sizes) (stride * get_or sizes 0 0) (from + k * stride) elements in
    let size = get_or sizes 0 0 in
    let zeros = (get_or block 0 0 - size) * cell_count (behind block) in
    sym (take-append-drop (i * part) out)
    ∙ ap (λ l. l ++ drop (i * part) out) (was.done ∙ ap (λ n. flat_map (λ k. items_of dtype (w k)) (range_with_len 0 n)) end ∙ sym (items-rows dtype w (range_with_len 0 size)))
    ∙ ap (λ l. items_of dtype (flat_map w (range_with_len 0 size)) ++ l)
    (was.rest ∙ ap (λ n. replicate n 0) (ap (λ n. cell_count block * byte_count dtype - n * part) end ∙ ap (λ n. cell_count block * byte_count dtype - size * n) same ∙ left block sizes (byte_count dtype) one one' within)
    ∙ sym (items-zeros dtype zeros))
    ∙ sym (flat_map-append (word_bytes dtype false) (flat_map w (range_with_len 0 size)) (replicate zeros 0))
    ∙ ap (items_of dtype) (words_of_all_rows dtype big block sizes stride from elements one one')
  where
    apart : (s k p b : ℕ) → (s + k) * p * b - s * (p * b) ≡ k * p * b
    apart s k p b = omega arith

    left : (block sizes : List ℕ) (b : ℕ) → 1 ≤ length block → 1 ≤ length sizes → AreWithin block sizes
        → cell_count block * b - get_or sizes 0 0 * (cell_count (behind block) * b) ≡ (get_or block 0 0 - get_or sizes 0 0) * cell_count (behind block) * b
    left [] sizes b one one' within = absurd (omega arith)
    left (m ∷ ms) [] b one one' within = absurd (omega arith)
    left (m ∷ ms) (s ∷ ss) b one one' within =
        let first = within-first m s ms ss within in
        let whole : m ≡ s + (m - s) = omega (arith, first) in
        rw (behind-cons m ms) (ap (λ n. n * cell_count ms * b - s * (cell_count ms * b)) whole ∙ apart s (m - s) (cell_count ms) b)

-- the rows of what is left without dimensions of one stored cell are the block's
pub taken_long : (dtype : Dtype) (big : Bool) (block sizes most stored bytes : List ℕ) (item : ℕ) → AreWithin block sizes → most ≡ of_long block block sizes → stored ≡ of_long sizes block sizes → item ≡ byte_count dtype
    → items_of dtype (words_of_rows dtype big most stored item 0 bytes) ≡ items_of dtype (words_of_rows dtype big block sizes (byte_count dtype) 0 bytes)
taken_long dtype big block sizes most stored bytes item within m s i =
    ap (items_of dtype)
    (ap (λ l. words_of_rows dtype big l stored item 0 bytes) m
    ∙ ap (λ l. words_of_rows dtype big (of_long block block sizes) l item 0 bytes) s
    ∙ ap (λ n. words_of_rows dtype big (of_long block block sizes) (of_long sizes block sizes) n 0 bytes) i
    ∙ words_of_rows-of_long dtype big block sizes (byte_count dtype) 0 bytes (fit_from_within block sizes within))

-- the words of a block's items are those that the bytes store
pub stored_taken : (dtype : Dtype) (big : Bool) (block sizes bytes items words : List ℕ) → AreWithin block sizes → ((i : ℕ) → get_or bytes i 0 < 256) → length bytes ≡ cell_count sizes * byte_count dtype
    → items ≡ items_of dtype (words_of_rows dtype big block sizes (byte_count dtype) 0 bytes) → SpellsItems dtype items words → length words ≡ cell_count block → All (IsWord dtype) words
    → AreStored dtype big block sizes bytes words
stored_taken dtype big block sizes bytes items words within small full is spells len are =
    let rows = words_of_rows dtype big block sizes (byte_count dtype) 0 bytes in
    let stored = AreStored-words_of_rows dtype big block sizes bytes within small full in
    subst (AreStored dtype big block sizes bytes) (sym (same_words dtype items words rows spells are stored.are_words (len ∙ sym stored.full) is)) stored
