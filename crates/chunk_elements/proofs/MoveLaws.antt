-- Elements that are moved: one more, and what they spell.
use Rattle.std.proofs.Common.{◌≡◌, ℕ, ◌+◌, ◌*◌, ◌-◌, ◌<◌, ◌≤◌, Bool, false, List, [], ◌++◌, All, length, get_or, take, drop, sym, ap, ◌∙◌, arith, zero-add}
use Rattle.std.specs.List.{flat_map, range_with_len}
use Rattle.std.proofs.Math.Seq.{take-length}
use Rattle.std.proofs.lemmas.List.FromFn.{length-range_with_len}
use Rattle.std.proofs.lemmas.List.{ext_get_or}
use Rattle.std.proofs.lemmas.Slice.{take-put_mid}
use Rattle.std.proofs.Math.Nat.{mul-le-mul_left}
use Rattle.cells.specs.Bytes.{byte_count, word_bytes, word_of_bytes}
use Rattle.cells.specs.declared.dtype.Dtype.{Dtype}
use Rattle.cells.specs.Elements.{element_bytes}
use Rattle.cells.specs.Items.{SpellsItems}
use Rattle.cells.specs.Numbers.{IsWord}
use Rattle.cells.proofs.Laws.{IsWord-word_of_bytes, length-word_bytes, word_of_bytes-word_bytes}
use Rattle.chunk_elements.specs.Rows.{items_of, word_in, moved_row}
use Rattle.chunk_elements.specs.Words.{AreSpelled, SpellsWords}
use Rattle.chunk_elements.proofs.ElementLaws.{part_of_range, part_of_rows}
use Rattle.chunk_elements.proofs.PartLaws.{bytes_of_part}
use Rattle.chunk_elements.proofs.RowLaws.{length-rows}
use Rattle.chunk_elements.proofs.RowSteps.{rows_more}
use borrow.Rule.Slice.PartMut.{put_mid}

-- an element more
pub one_moved : (dtype : Dtype) (big to : Bool) (i size stride from count : ℕ) (elements out part put : List ℕ) (w : ℕ) → size ≡ byte_count dtype → length out ≡ count * byte_count dtype → i < count
    → take (i * byte_count dtype) out ≡ moved_row dtype big to i stride from elements → w ≡ word_of_bytes dtype big part
    → part ≡ take (from + i * stride + size - (from + i * stride)) (drop (from + i * stride) elements) → put ≡ word_bytes dtype to w
    → take ((i + 1) * byte_count dtype) (put_mid (i * size) (i * size + size - i * size) out put) ≡ moved_row dtype big to (i + 1) stride from elements
one_moved dtype big to i size stride from count elements out part put w same full less is word range bytes =
    let at = from + i * stride in
    let len : at + size - at ≡ byte_count dtype = omega (arith, same) in
    let here : w ≡ word_in dtype big elements at = word ∙ ap (word_of_bytes dtype big) (range ∙ ap (λ n. take n (drop at elements)) len) in
    let long : length put ≡ byte_count dtype = ap length bytes ∙ length-word_bytes dtype to w in
    let start : i * size ≡ i * byte_count dtype = ap (λ n. i * n) same in
    let rows : byte_count dtype * (i + 1) ≤ byte_count dtype * count = mul-le-mul_left (byte_count dtype) (omega arith) in
    let end : (i + 1) * byte_count dtype ≡ i * size + length put = omega (arith, start, long) in
    let within : i * size ≤ length out = omega (arith, rows, start, full) in
    rows_more (λ k. word_bytes dtype to (word_in dtype big elements (from + k * stride))) [] (take (i * byte_count dtype) out) _ i is
    (take-put_mid (i * size) (i * size + size - i * size) out put ((i + 1) * byte_count dtype) end within
    ∙ ap (λ n. take n out ++ put) start ∙ ap (λ l. take (i * byte_count dtype) out ++ l) (bytes ∙ ap (word_bytes dtype to) here))

-- there are as many as were moved
pub length-moved_row : (dtype : Dtype) (big to : Bool) (count stride from : ℕ) (elements : List ℕ) → length (moved_row dtype big to count stride from elements) ≡ count * byte_count dtype
length-moved_row dtype big to count stride from elements =
    let row = λ (i : ℕ). word_bytes dtype to (word_in dtype big elements (from + i * stride)) in
    length-rows (byte_count dtype) row (λ i. length-word_bytes dtype to (word_in dtype big elements (from + i * stride))) (range_with_len 0 count)
    ∙ ap (λ n. n * byte_count dtype) (length-range_with_len 0 count)

-- each is the same word in the other order
pub element-moved_row : (dtype : Dtype) (big to : Bool) (count stride from : ℕ) (elements : List ℕ) (p : ℕ) → p < count
    → element_bytes (byte_count dtype) (moved_row dtype big to count stride from elements) p ≡ word_bytes dtype to (word_in dtype big elements (from + p * stride))
element-moved_row dtype big to count stride from elements p less =
    let row = λ (i : ℕ). word_bytes dtype to (word_in dtype big elements (from + i * stride)) in
    let each : (i : ℕ) → length (row i) ≡ byte_count dtype = λ i. length-word_bytes dtype to (word_in dtype big elements (from + i * stride)) in
    let at : p * byte_count dtype ≡ p * byte_count dtype + 0 = omega arith in
    let whole : 0 + byte_count dtype ≤ byte_count dtype = omega arith in
    ap (λ n. take (byte_count dtype) (drop n (flat_map row (range_with_len 0 count)))) at
    ∙ part_of_range row (byte_count dtype) each count p 0 (byte_count dtype) less whole
    ∙ ap (λ n. take n (row p)) (sym (each p)) ∙ take-length (row p)

-- words of the dtype with the same bytes are the same
same_word : (dtype : Dtype) (big : Bool) (v w : ℕ) → IsWord dtype v → IsWord dtype w → word_bytes dtype big v ≡ word_bytes dtype big w → v ≡ w
same_word dtype big v w vs ws same = sym (word_of_bytes-word_bytes dtype big v vs) ∙ ap (word_of_bytes dtype big) same ∙ word_of_bytes-word_bytes dtype big w ws

-- the words of items into which elements were moved are those that the elements spell
pub read_moved : (dtype : Dtype) (big : Bool) (count : ℕ) (bytes items words : List ℕ) → ((i : ℕ) → get_or bytes i 0 < 256) → length bytes ≡ count * byte_count dtype
    → items ≡ moved_row dtype big false count (byte_count dtype) 0 bytes → SpellsItems dtype items words → length words ≡ count → All (IsWord dtype) words
    → AreSpelled dtype big count bytes words
read_moved dtype big count bytes items words small full is spells len are = record {
  full = len;
  are_words = are;
  spelled = record {
    count = full ∙ ap (λ n. n * byte_count dtype) (sym len);
    elements = λ p less. let within : p < count = omega (arith, len) in
        sym (ap (word_bytes dtype big) (here p less within ∙ ap (word_in dtype big bytes) (zero-add (p * byte_count dtype))) ∙ bytes_of_part dtype big bytes (p * byte_count dtype) small (fits p within));
  };
}
  where
    here : (p : ℕ) → p < length words → p < count → get_or words p 0 ≡ word_in dtype big bytes (0 + p * byte_count dtype)
    here p less within =
        same_word dtype false (get_or words p 0) (word_in dtype big bytes (0 + p * byte_count dtype)) (are p 0 less)
        (IsWord-word_of_bytes dtype big (take (byte_count dtype) (drop (0 + p * byte_count dtype) bytes)))
        (sym (spells.items p less) ∙ ap (λ l. element_bytes (byte_count dtype) l p) is ∙ element-moved_row dtype big false count (byte_count dtype) 0 bytes p within)

    fits : (p : ℕ) → p < count → p * byte_count dtype + byte_count dtype ≤ length bytes
    fits p within = let rows : byte_count dtype * (p + 1) ≤ byte_count dtype * count = mul-le-mul_left (byte_count dtype) (omega arith) in omega (arith, rows, full)

-- the elements into which items were moved spell the items' words
pub written_moved : (dtype : Dtype) (big : Bool) (items bytes words : List ℕ) → SpellsItems dtype items words → All (IsWord dtype) words
    → bytes ≡ moved_row dtype false big (length words) (byte_count dtype) 0 items → SpellsWords dtype big bytes words
written_moved dtype big items bytes words spells are is = record {
  count = ap length is ∙ length-moved_row dtype false big (length words) (byte_count dtype) 0 items;
  elements = λ p less.
      ap (λ l. element_bytes (byte_count dtype) l p) is
      ∙ element-moved_row dtype false big (length words) (byte_count dtype) 0 items p less
      ∙ ap (word_bytes dtype big)
      (ap (word_in dtype false items) (zero-add (p * byte_count dtype)) ∙ ap (word_of_bytes dtype false) (spells.items p less)
      ∙ word_of_bytes-word_bytes dtype false (get_or words p 0) (are p 0 less));
}

-- the items of words are as many bytes
pub length-items_of : (dtype : Dtype) (words : List ℕ) → length (items_of dtype words) ≡ length words * byte_count dtype
length-items_of dtype words = length-rows (byte_count dtype) (word_bytes dtype false) (λ w. length-word_bytes dtype false w) words

-- each item is its word's
element-items_of : (dtype : Dtype) (words : List ℕ) (p : ℕ) → p < length words → element_bytes (byte_count dtype) (items_of dtype words) p ≡ word_bytes dtype false (get_or words p 0)
element-items_of dtype words p less =
    let row = word_bytes dtype false in
    let each : (w : ℕ) → length (row w) ≡ byte_count dtype = λ w. length-word_bytes dtype false w in
    let at : p * byte_count dtype ≡ p * byte_count dtype + 0 = omega arith in
    let whole : 0 + byte_count dtype ≤ byte_count dtype = omega arith in
    ap (λ n. take (byte_count dtype) (drop n (flat_map row words))) at
    ∙ part_of_rows row (byte_count dtype) each words p 0 (byte_count dtype) less whole
    ∙ ap (λ n. take n (row (get_or words p 0))) (sym (each (get_or words p 0))) ∙ take-length (row (get_or words p 0))

-- words of the dtype with the same items are the same
pub same_words : (dtype : Dtype) (items words others : List ℕ) → SpellsItems dtype items words → All (IsWord dtype) words → All (IsWord dtype) others → length words ≡ length others → items ≡ items_of dtype others → words ≡ others
same_words dtype items words others spells are ares len is =
    ext_get_or 0 words others len
    (λ p less. let within : p < length others = omega (arith, len) in
    same_word dtype false (get_or words p 0) (get_or others p 0) (are p 0 less) (ares p 0 within)
    (sym (spells.items p less) ∙ ap (λ l. element_bytes (byte_count dtype) l p) is ∙ element-items_of dtype others p within))
