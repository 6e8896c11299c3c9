-- What the rows of a block's walk store.
use Rattle.std.proofs.Common.{◌≡◌, ℕ, ◌+◌, ◌*◌, ◌<◌, ◌≤◌, ◌^◌, Bool, List, ◌++◌, length, get_or, reverse, sym, ap, subst, ◌∙◌, arith, zero-add, mul_comm}
use Rattle.std.proofs.Math.Nat.{mul-le-mul, mul-le-mul_left}
use Rattle.cells.specs.Bytes.{byte_count, word_bytes}
use Rattle.cells.specs.Elements.{element_bytes}
use Rattle.cells.specs.Places.{cell_count, IsInside, c_place, f_place}
use Rattle.cells.specs.declared.dtype.Dtype.{Dtype}
use Rattle.cells.proofs.Laws.{f_place-lt, cell_count-reverse, IsInside-reverse, c_place-reverse, f_place-reverse}
use Rattle.chunk_elements.specs.Blocks.{AreWithin, StoresWords, AreStored, AddsBlock}
use Rattle.chunk_elements.specs.Rows.{word_in, words_of_rows, elements_of_rows, of_long}
use Rattle.chunk_elements.proofs.FitLaws.{Fit, cell_count-within, fit_from_within, within_from_fit, within-reverse}
use Rattle.chunk_elements.proofs.LongLaws.{cell_count-of_long, cell_count-of_long_sizes, fit-of_long}
use Rattle.chunk_elements.proofs.PartLaws.{bytes_of_part}
use Rattle.chunk_elements.proofs.RowLaws.{inside-fit, get_or-words_of_rows, get_or-lacking, length-words_of_rows, All-words_of_rows}
use Rattle.chunk_elements.proofs.ElementLaws.{length-elements_of_rows, element-elements_of_rows}

-- the words that are read row by row are those that the bytes store
pub AreStored-words_of_rows : (dtype : Dtype) (big : Bool) (block sizes bytes : List ℕ) → AreWithin block sizes → ((i : ℕ) → get_or bytes i 0 < 256) → length bytes ≡ cell_count sizes * byte_count dtype
    → AreStored dtype big block sizes bytes (words_of_rows dtype big block sizes (byte_count dtype) 0 bytes)
AreStored-words_of_rows dtype big block sizes bytes within small full = record {
  full = length-words_of_rows dtype big block sizes (byte_count dtype) 0 bytes fit;
  are_words = All-words_of_rows dtype big block sizes (byte_count dtype) 0 bytes fit;
  stored = record {
    count = full;
    elements = λ index inside. sym (ap (word_bytes dtype big) (here index inside) ∙ bytes_of_part dtype big bytes (f_place sizes index * byte_count dtype) small (fits index inside));
  };
  lacking = λ index inside outside. get_or-lacking dtype big block sizes index (byte_count dtype) 0 bytes fit inside outside;
}
  where
    fit : Fit block sizes
    fit = fit_from_within block sizes within

    here : (index : List ℕ) → IsInside sizes index → get_or (words_of_rows dtype big block sizes (byte_count dtype) 0 bytes) (c_place block index) 0 ≡ word_in dtype big bytes (f_place sizes index * byte_count dtype)
    here index inside =
        get_or-words_of_rows dtype big block sizes index (byte_count dtype) 0 bytes fit inside
        ∙ ap (word_in dtype big bytes) (zero-add (byte_count dtype * f_place sizes index) ∙ mul_comm (byte_count dtype) (f_place sizes index))

    fits : (index : List ℕ) → IsInside sizes index → f_place sizes index * byte_count dtype + byte_count dtype ≤ length bytes
    fits index inside =
        let less = f_place-lt sizes index inside in
        let rows : byte_count dtype * (f_place sizes index + 1) ≤ byte_count dtype * cell_count sizes = mul-le-mul_left (byte_count dtype) (omega arith) in
        omega (arith, rows, full)

-- rows of the dimensions backwards store the words
pub StoresWords-backwards : (dtype : Dtype) (big : Bool) (block sizes words : List ℕ) → AreWithin block sizes
    → StoresWords dtype big block sizes (elements_of_rows dtype big (reverse block) (reverse sizes) 1 0 words) words
StoresWords-backwards dtype big block sizes words within = record {
  count = length-elements_of_rows dtype big (reverse block) (reverse sizes) 1 0 words fit ∙ ap (λ n. n * byte_count dtype) (cell_count-reverse sizes);
  elements = λ index inside.
      let rows = elements_of_rows dtype big (reverse block) (reverse sizes) 1 0 words in
      ap (λ p. element_bytes (byte_count dtype) rows p) (sym (c_place-reverse sizes index inside))
      ∙ element-elements_of_rows dtype big (reverse block) (reverse sizes) (reverse index) 1 0 words fit (IsInside-reverse sizes index inside)
      ∙ ap (λ p. word_bytes dtype big (get_or words p 0)) (place index inside);
}
  where
    fit : Fit (reverse block) (reverse sizes)
    fit = fit_from_within (reverse block) (reverse sizes) (within-reverse block sizes within)

    place : (index : List ℕ) → IsInside sizes index → 0 + 1 * f_place (reverse block) (reverse index) ≡ c_place block index
    place index inside = (let one : 0 + 1 * f_place (reverse block) (reverse index) ≡ f_place (reverse block) (reverse index) = omega arith in one)
        ∙ f_place-reverse block index (inside-fit block sizes index (fit_from_within block sizes within) inside)

-- what is left without dimensions of one stored cell
pub record IsLong (block sizes most stored : List ℕ) : Type 0 where
  pub within : AreWithin most stored
  pub cells : cell_count most ≡ cell_count block
  pub stored_cells : cell_count stored ≡ cell_count sizes

pub long : (block sizes most stored : List ℕ) → AreWithin block sizes → most ≡ of_long block block sizes → stored ≡ of_long sizes block sizes → IsLong block sizes most stored
long block sizes most stored within m s =
    let fit = fit_from_within block sizes within in
    record {
      within = subst (λ l. AreWithin l stored) (sym m) (subst (λ l. AreWithin (of_long block block sizes) l) (sym s) (within_from_fit (of_long block block sizes) (of_long sizes block sizes) (fit-of_long block sizes fit)));
      cells = ap cell_count m ∙ cell_count-of_long block sizes fit;
      stored_cells = ap cell_count s ∙ cell_count-of_long_sizes block sizes fit;
    }

-- the elements are few bytes, and end where the bytes do
pub record AreFew (item n q b len : ℕ) : Type 0 where
  pub room : 0 + item * q + b ≤ len + item
  pub stride : item * n ≤ 2 ^ 27
  pub small : len ≤ 2 ^ 27

few_by_numbers : (item n q b len most sizes : ℕ) → item ≡ b → n ≡ most → q ≡ sizes → item ≤ 8 → most ≤ 2 ^ 24 → sizes ≤ most → len ≡ sizes * b → AreFew item n q b len
few_by_numbers item n q b len most sizes is ns qs least volume within full =
    let all : item * n ≤ 8 * 2 ^ 24 = mul-le-mul least (let v : n ≤ 2 ^ 24 = omega arith in v) in
    let some : sizes * b ≤ 2 ^ 24 * 8 = mul-le-mul (let v : sizes ≤ 2 ^ 24 = omega arith in v) (let u : b ≤ 8 = omega arith in u) in
    record {
      room = rw (is, qs, full) (omega arith);
      stride = omega (arith, all);
      small = omega (arith, some);
    }

pub few : (block sizes most stored bytes : List ℕ) (item b : ℕ) → AreWithin block sizes → cell_count block ≤ 2 ^ 24 → item ≡ b → item ≤ 8 → length bytes ≡ cell_count sizes * b → IsLong block sizes most stored
    → AreFew item (cell_count most) (cell_count stored) b (length bytes)
few block sizes most stored bytes item b within volume is least full left =
    few_by_numbers item (cell_count most) (cell_count stored) b (length bytes) (cell_count block) (cell_count sizes) is left.cells left.stored_cells least volume (cell_count-within block sizes within) full

-- rows of the dimensions backwards add a block
pub AddsBlock-backwards : (dtype : Dtype) (big : Bool) (block sizes words most stored before out : List ℕ) → AreWithin block sizes → most ≡ reverse block → stored ≡ reverse sizes
    → out ≡ before ++ elements_of_rows dtype big most stored 1 0 words → AddsBlock dtype big block sizes words before out
AddsBlock-backwards dtype big block sizes words most stored before out within m s is = record {
  added = (
    elements_of_rows dtype big (reverse block) (reverse sizes) 1 0 words,
    is ∙ ap (λ l. before ++ elements_of_rows dtype big l stored 1 0 words) m ∙ ap (λ l. before ++ elements_of_rows dtype big (reverse block) l 1 0 words) s,
    StoresWords-backwards dtype big block sizes words within,
  );
}

-- the dimensions backwards fit and have as many cells
pub backwards : (block sizes most stored : List ℕ) → AreWithin block sizes → most ≡ reverse block → stored ≡ reverse sizes → AreWithin most stored × (cell_count most ≡ cell_count block)
backwards block sizes most stored within m s = (
  subst (λ l. AreWithin l stored) (sym m) (subst (λ l. AreWithin (reverse block) l) (sym s) (within-reverse block sizes within)),
  ap cell_count m ∙ cell_count-reverse block,
)
