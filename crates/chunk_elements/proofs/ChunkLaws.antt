-- A chunk is its words in the stored order, one after another.
use Rattle.std.proofs.Common.{◌≡◌, ℕ, ◌+◌, ◌*◌, ◌<◌, ◌≤◌, Bool, false, List, length, drop, get_or, sym, ap, subst, ◌∙◌, arith}
use Rattle.std.specs.Prelude.{All}
use Rattle.std.proofs.Math.Nat.{mul-le-mul_left}
use Rattle.std.proofs.lemmas.List.{length-take-le, length-drop}
use Rattle.std.proofs.lemmas.List.Elements.{All-get_or}
use Rattle.cells.specs.Numbers.{IsWord}
use Rattle.cells.specs.Bytes.{byte_count, word_bytes, word_of_bytes}
use Rattle.cells.specs.Places.{cell_count, IsInside, place_of, c_place}
use Rattle.cells.specs.declared.dtype.Dtype.{Dtype}
use Rattle.cells.specs.declared.order.Order.TheVariants.{C, F}
use Rattle.cells.proofs.Laws.{word_of_bytes-word_bytes, word_bytes-word_of_bytes, IsWord-word_of_bytes, place_of-lt, c_place-lt, cell_count-pos}
use Rattle.cells.specs.Dense.{DenseCells, IsDense}
use Rattle.cells.specs.Items.{SpellsItems}
use Rattle.cells.specs.Shapes.{IsChunkShape}
use Rattle.chunk_elements.specs.Blocks.{StoresWords}
use Rattle.chunk_elements.specs.Chunk.{Layout, element_bytes, word_at, SpellsChunk, chunk_len, chunk_word}
use Rattle.chunk_elements.specs.Words.{SpellsWords}
use Rattle.chunk_elements.proofs.PartLaws.{small-drop, small-take}

-- a chunk has a cell
pub chunk_cells : (chunks : List ℕ) → IsChunkShape chunks → 0 < cell_count chunks
chunk_cells chunks is = cell_count-pos chunks is.least

-- words one after another in C order are a chunk in C order
pub SpellsChunk-from_c : (m : Layout) (bytes words : List ℕ) → m.order ≡ C → length words ≡ cell_count m.chunks → All (IsWord m.dtype) words → SpellsWords m.dtype m.big bytes words
    → SpellsChunk m bytes (λ index. get_or words (c_place m.chunks index) 0)
SpellsChunk-from_c m bytes words is full are spells = record {
  count = spells.count ∙ ap (λ n. n * byte_count m.dtype) full;
  elements = λ index within.
      let less = c_place-lt m.chunks index within in
      ap (λ o. element_bytes (byte_count m.dtype) bytes (place_of m.chunks o index)) is ∙ spells.elements (c_place m.chunks index) (omega (arith, less, full));
  are_words = λ index within.
      let less = c_place-lt m.chunks index within in
      All-get_or (IsWord m.dtype) words (c_place m.chunks index) 0 (omega (arith, less, full)) are;
}

-- items are a chunk in C order with the lowest byte first
pub SpellsChunk-from_items : (m : Layout) (bytes : List ℕ) (d : DenseCells) → m.order ≡ C → m.big ≡ false → d.dtype ≡ m.dtype → d.shape ≡ m.chunks → IsDense d → SpellsItems d.dtype bytes d.words
    → SpellsChunk m bytes (word_at d)
SpellsChunk-from_items m bytes d order little same shape dense spells =
    let spelled : SpellsWords m.dtype m.big bytes d.words = record {
      count = spells.count ∙ ap (λ (t : Dtype). length d.words * byte_count t) same;
      elements = λ p less. ap (λ (t : Dtype). element_bytes (byte_count t) bytes p) (sym same) ∙ spells.items p less
          ∙ ap (λ (t : Dtype). word_bytes t false (get_or d.words p 0)) same ∙ ap (λ (b : Bool). word_bytes m.dtype b (get_or d.words p 0)) (sym little);
    } in
    let base = SpellsChunk-from_c m bytes d.words order (dense.full ∙ ap cell_count shape) (subst (λ (t : Dtype). All (IsWord t) d.words) same dense.of_dtype) spelled in
    subst (λ (s : List ℕ). SpellsChunk m bytes (λ index. get_or d.words (c_place s index) 0)) (sym shape) base

-- a whole block of words is a chunk in F order
pub SpellsChunk-from_f : (m : Layout) (bytes words : List ℕ) → m.order ≡ F → length words ≡ cell_count m.chunks → All (IsWord m.dtype) words → StoresWords m.dtype m.big m.chunks m.chunks bytes words
    → SpellsChunk m bytes (λ index. get_or words (c_place m.chunks index) 0)
SpellsChunk-from_f m bytes words is full are stores = record {
  count = stores.count;
  elements = λ index within. ap (λ o. element_bytes (byte_count m.dtype) bytes (place_of m.chunks o index)) is ∙ stores.elements index within;
  are_words = λ index within.
      let less = c_place-lt m.chunks index within in
      All-get_or (IsWord m.dtype) words (c_place m.chunks index) 0 (omega (arith, less, full)) are;
}

-- a chunk's bytes spell no other words
pub SpellsChunk-unique : (m : Layout) (bytes : List ℕ) (word : List ℕ → ℕ) → SpellsChunk m bytes word → (index : List ℕ) → IsInside m.chunks index → word index ≡ chunk_word m bytes index
SpellsChunk-unique m bytes word spells index within =
    sym (ap (word_of_bytes m.dtype m.big) (spells.elements index within) ∙ word_of_bytes-word_bytes m.dtype m.big (word index) (spells.are_words index within))

element_fits : (size count p : ℕ) → p < count → p * size + size ≤ count * size
element_fits size count p less = let rows : size * (p + 1) ≤ size * count = mul-le-mul_left size (omega arith) in omega (arith, rows)

length-element : (size count p : ℕ) (bytes : List ℕ) → length bytes ≡ count * size → p < count → length (element_bytes size bytes p) ≡ size
length-element size count p bytes full less =
    length-take-le size (drop (p * size) bytes) (rw length-drop (omega (arith, element_fits size count p less, full)))

-- bytes of a chunk's length spell a chunk
pub SpellsChunk-from_len : (m : Layout) (bytes : List ℕ) → ((i : ℕ) → get_or bytes i 0 < 256) → length bytes ≡ chunk_len m → SpellsChunk m bytes (chunk_word m bytes)
SpellsChunk-from_len m bytes small full = record {
  count = full;
  elements = λ index within. sym (word_bytes-word_of_bytes m.dtype m.big _
      (length-element (byte_count m.dtype) (cell_count m.chunks) (place_of m.chunks m.order index) bytes full (place_of-lt m.chunks m.order index within))
      (small-take (byte_count m.dtype) (drop (place_of m.chunks m.order index * byte_count m.dtype) bytes) (small-drop (place_of m.chunks m.order index * byte_count m.dtype) bytes small)));
  are_words = λ index within. IsWord-word_of_bytes m.dtype m.big _;
}
