-- Bytes without a fault spell a block, and what is written for one.
use Rattle.std.proofs.Common.{◌≡◌, ℕ, ◌*◌, ◌<◌, List, length, get_or, drop, true, None, sym, ap, subst, ◌∙◌, arith}
use Rattle.std.specs.Prelude.{All}
use Rattle.std.proofs.lemmas.List.{length-drop}
use Rattle.std.proofs.lemmas.List.Elements.{All-get_or}
use Rattle.chunk_elements.specs.Numbers.{IsWord}
use Rattle.chunk_elements.specs.Dense.{DenseCells, IsDense}
use Rattle.chunk_elements.specs.Bytes.{byte_count}
use Rattle.chunk_elements.specs.Places.{cell_count, IsInside, c_place}
use Rattle.chunk_elements.specs.declared.Dtype.{Dtype}
use Rattle.chunk_elements.proofs.Laws.{c_place-lt}
use Rattle.chunk_elements.specs.Blocks.{AreWithin, StoresWords, AreStored, AddsBlock}
use Rattle.chunk_elements.proofs.Laws.{AreStored-words_of_rows, fit_from_within, inside-fit, small-drop}
use Rattle.n5_blocks.specs.Metadata.{Metadata, IsMetadata}
use Rattle.n5_blocks.specs.Block.{AreElements, SpellsBlock, StoresCells, WritesBlock, IsReached, IsZeroOutside, header, cut_sizes, word_at}
use Rattle.n5_blocks.specs.Faults.{header_len, sizes_in, block_fault}
use Rattle.n5_blocks.proofs.CutLaws.{within-cut_sizes}
use Rattle.n5_blocks.proofs.FaultLaws.{length-sizes_in, sound_from_no_fault, whole_from_no_fault}
use Rattle.n5_blocks.proofs.HeaderLaws.{bytes-header}

-- stored words are elements
AreElements-from_words : (dtype : Dtype) (block sizes bytes words : List ℕ) → AreWithin block sizes → length words ≡ cell_count block → All (IsWord dtype) words → StoresWords dtype true block sizes bytes words
    → AreElements dtype sizes bytes (λ index. get_or words (c_place block index) 0)
AreElements-from_words dtype block sizes bytes words within full are stores = record {
  count = stores.count;
  elements = stores.elements;
  are_words = λ index inside.
      let less = c_place-lt block index (inside-fit block sizes index (fit_from_within block sizes within) inside) in
      All-get_or (IsWord dtype) words (c_place block index) 0 (omega (arith, less, full)) are;
}

-- the words that bytes without a fault store are those that they spell
pub SpellsBlock-stored : (m : Metadata) (bytes words : List ℕ) → ((i : ℕ) → get_or bytes i 0 < 256) → block_fault m bytes ≡ None
    → AreStored m.dtype true m.block (sizes_in (length m.block) bytes) (drop (header_len (length m.block)) bytes) words → SpellsBlock m bytes (λ index. get_or words (c_place m.block index) 0)
SpellsBlock-stored m bytes words small none stored =
    let whole = whole_from_no_fault m bytes none in
    let rank = length m.block in
    let sizes = sizes_in rank bytes in
    let sound = sound_from_no_fault m.dtype m.block bytes whole.cells in
    record {
      stored = (
        sizes,
        record {
          within = sound.within;
          parts = (
            drop (header_len rank) bytes,
            bytes-header bytes rank small sound.header whole.mode whole.rank (length-sizes_in rank bytes),
            AreElements-from_words m.dtype m.block sizes (drop (header_len rank) bytes) words sound.within stored.full stored.are_words stored.stored,
          );
          lacking = stored.lacking;
        },
      );
    }

-- bytes without a fault spell a block
pub SpellsBlock-from_no_fault : (m : Metadata) (bytes : List ℕ) → ((i : ℕ) → get_or bytes i 0 < 256) → block_fault m bytes ≡ None → (word : List ℕ → ℕ) × SpellsBlock m bytes word
SpellsBlock-from_no_fault m bytes small none =
    let sizes = sizes_in (length m.block) bytes in
    let sound = sound_from_no_fault m.dtype m.block bytes (whole_from_no_fault m bytes none).cells in
    let elements = drop (header_len (length m.block)) bytes in
    let full : length elements ≡ cell_count sizes * byte_count m.dtype = rw length-drop (omega (arith, sound.count)) in
    (_, SpellsBlock-stored m bytes _ small none (AreStored-words_of_rows m.dtype true m.block sizes elements sound.within (small-drop (header_len (length m.block)) bytes small) full))

-- the numbers of a block's words are what its bytes spell
pub SpellsBlock-dense : (m : Metadata) (bytes words : List ℕ) (d : DenseCells) → ((i : ℕ) → get_or bytes i 0 < 256) → block_fault m bytes ≡ None
    → AreStored m.dtype true m.block (sizes_in (length m.block) bytes) (drop (header_len (length m.block)) bytes) words → d.shape ≡ m.block → d.words ≡ words → SpellsBlock m bytes (word_at d)
SpellsBlock-dense m bytes words d small none stored same are =
    subst (λ shape. SpellsBlock m bytes (λ index. get_or d.words (c_place shape index) 0)) (sym same)
    (subst (λ ws. SpellsBlock m bytes (λ index. get_or ws (c_place m.block index) 0)) (sym are) (SpellsBlock-stored m bytes words small none stored))

-- a header and a block's elements are what is written for it
pub WritesBlock-dense : (m : Metadata) (index bytes : List ℕ) (d : DenseCells) → IsDense d → d.dtype ≡ m.dtype → d.shape ≡ m.block
    → IsMetadata m → IsReached m index → IsZeroOutside m index (word_at d)
    → AddsBlock m.dtype true m.block (cut_sizes m.block m.dimensions index) d.words (header (cut_sizes m.block m.dimensions index)) bytes
    → WritesBlock m index bytes (word_at d)
WritesBlock-dense m index bytes d dense kind shape rules reached outside adds =
    let cut = cut_sizes m.block m.dimensions index in
    let words_are : All (IsWord m.dtype) d.words = subst (λ t. All (IsWord t) d.words) kind dense.of_dtype in
    let within = within-cut_sizes m.block m.dimensions index (sym rules.ranks) (reached.rank ∙ sym rules.ranks) in
    let lacking = subst (λ s. (cell : List ℕ) → IsInside m.block cell → ¬ IsInside cut cell → get_or d.words (c_place s cell) 0 ≡ 0) shape outside in
    subst (λ s. StoresCells m cut bytes (λ cell. get_or d.words (c_place s cell) 0)) (sym shape)
    (record {
      within = within;
      parts = (adds.added.0, adds.added.1, AreElements-from_words m.dtype m.block cut adds.added.0 d.words within (dense.full ∙ ap cell_count shape) words_are adds.added.2);
      lacking = lacking;
    })

-- the same over lists and a dtype that are the same
pub WritesBlock-same : (m : Metadata) (index bytes block sizes words : List ℕ) (dtype : Dtype) (d : DenseCells) → IsDense d → d.dtype ≡ m.dtype → d.shape ≡ m.block
    → IsMetadata m → IsReached m index → IsZeroOutside m index (word_at d)
    → dtype ≡ m.dtype → block ≡ m.block → sizes ≡ cut_sizes m.block m.dimensions index → words ≡ d.words → AddsBlock dtype true block sizes words (header sizes) bytes
    → WritesBlock m index bytes (word_at d)
WritesBlock-same m index bytes block sizes words dtype d dense kind shape rules reached outside dtype_is block_is sizes_is words_is adds =
    let cut = cut_sizes m.block m.dimensions index in
    WritesBlock-dense m index bytes d dense kind shape rules reached outside
    (subst (λ w. AddsBlock m.dtype true m.block cut w (header cut) bytes) words_is
    (subst (λ s. AddsBlock m.dtype true m.block s words (header s) bytes) sizes_is
    (subst (λ b. AddsBlock m.dtype true b sizes words (header sizes) bytes) block_is
    (subst (λ t. AddsBlock t true block sizes words (header sizes) bytes) dtype_is adds))))
