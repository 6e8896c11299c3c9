-- Bytes spell one list of words, and what is written for a chunk spells it.
use Rattle.std.proofs.Common.{◌≡◌, ℕ, ◌<◌, inl, inr, List, length, drop, true, false, cond, Some, None, refl, sym, ap, subst, get_or, replicate, ◌∙◌, eq-eqb, eqb, eqb-true, Option}
use Rattle.zarr_chunks.specs.Bytes.{byte_count, word_of_bytes}
use Rattle.zarr_chunks.specs.Places.{IsInside, cell_count, c_place, f_place}
use Rattle.zarr_chunks.proofs.Laws.{word_of_bytes-word_bytes, c_place-lt, true_or_false, test-IsInside, IsInside-from_test}
use Rattle.chunk_forms.specs.declared.form.Form.{Form}
use Rattle.chunk_forms.specs.declared.form.Form.TheVariants.{Zarr, N5, Zarr3, Local}
use Rattle.chunk_forms.specs.declared.form.Damage.TheVariants as damage
use Rattle.chunk_forms.specs.Grammar.{SpellsChunk, WritesChunk, cut_sizes}
use Rattle.chunk_forms.specs.Metadata.{chunk_shape_of, is_local, IsMetadata}
use Rattle.chunk_forms.specs.Words.{is_inside, zarr_fault, n5_fault, chunk_fault, spelled_word, block_word, unless_damaged, word_in}
use Rattle.zarr_chunks.specs.Metadata as zarr
use Rattle.zarr_chunks.specs.Chunk as zarr_chunk
use Rattle.zarr_chunks.specs.ElementChunk as chunk
use Rattle.zarr_chunks.specs.declared.ChunkError.TheVariants.{WrongLength}
use Rattle.n5_blocks.specs.Metadata as n5
use Rattle.n5_blocks.specs.Block as block
use Rattle.zarr_chunks.proofs.Laws.{SpellsChunk-from_len}
use Rattle.n5_blocks.specs.Faults.{header_len, block_fault}
use Rattle.n5_blocks.specs.declared.chunk.BlockError.{BlockError}
use Rattle.n5_blocks.proofs.Laws.{SpellsBlock-from_no_fault, no_fault-SpellsBlock, parsed}
use Rattle.std.proofs.lemmas.List.{get_or-replicate}
use Rattle.zarr3_chunks.specs.Metadata as zarr3
use Rattle.zarr3_chunks.specs.Chunk as zarr3_chunk
pub use Rattle.zarr_chunks.proofs.Laws.{IsWord-zero}

-- what is written for a chunk spells its words
pub spells_of_writes : (form : Form) (index shape bytes : List ℕ) (word : List ℕ → ℕ) → WritesChunk form index shape bytes word → SpellsChunk form bytes word
spells_of_writes (Zarr meta) index shape bytes word w = w
spells_of_writes (N5 meta) index shape bytes word w = record { stored = (cut_sizes meta.block shape index, w) }
spells_of_writes (Zarr3 meta) index shape bytes word w = w
spells_of_writes Local index shape bytes word w = w

zarr_no_fault : (m : chunk.Layout) (bytes : List ℕ) (word : List ℕ → ℕ) → chunk.SpellsChunk m bytes word → zarr_fault m bytes ≡ None
zarr_no_fault m bytes word p = ap (λ b. cond b None (Some (damage.Zarr (WrongLength (length bytes) (chunk.chunk_len m))))) (eq-eqb (length bytes) (chunk.chunk_len m) p.count)

-- bytes that spell words are a chunk
pub no_fault_of_spells : (form : Form) (bytes : List ℕ) (word : List ℕ → ℕ) → IsMetadata form → SpellsChunk form bytes word → chunk_fault form bytes ≡ None
no_fault_of_spells (Zarr meta) bytes word valid p = zarr_no_fault (zarr_chunk.layout_of meta) bytes word p
no_fault_of_spells (N5 meta) bytes word valid p = ap (λ o. elim o [ None ↦ None | Some cause ↦ Some (damage.N5 cause) ]) (no_fault-SpellsBlock meta bytes word valid p)
no_fault_of_spells (Zarr3 meta) bytes word valid p = zarr_no_fault (zarr3_chunk.layout_of meta) bytes word p
no_fault_of_spells Local bytes word valid p = absurd p

zarr_word : (m : chunk.Layout) (bytes : List ℕ) (word : List ℕ → ℕ) (index : List ℕ) → chunk.SpellsChunk m bytes word → IsInside m.chunks index → chunk.chunk_word m bytes index ≡ word index
zarr_word m bytes word index p inside = ap (word_of_bytes m.dtype m.big) (p.elements index inside) ∙ word_of_bytes-word_bytes m.dtype m.big (word index) (p.are_words index inside)

n5_word : (m : n5.Metadata) (bytes : List ℕ) (word : List ℕ → ℕ) (index : List ℕ) → n5.IsMetadata m → block.SpellsBlock m bytes word → IsInside m.block index → block_word m bytes index ≡ word index
n5_word m bytes word index valid p inside =
    let sizes = p.stored.0 in
    let stores = p.stored.1 in
    let elements = stores.parts.0 in
    let tells = parsed m bytes sizes elements valid stores.within stores.parts.1 in
    ap (λ s. cond (is_inside s index) (word_of_bytes m.dtype true (block.element_bytes (byte_count m.dtype) (drop (header_len (length m.block)) bytes) (f_place s index))) 0) tells.sizes_are
    ∙ ap (λ es. cond (is_inside sizes index) (word_of_bytes m.dtype true (block.element_bytes (byte_count m.dtype) es (f_place sizes index))) 0) tells.rest
    ∙ elim (true_or_false (is_inside sizes index)) [
      | inl t ↦
          let here = IsInside-from_test sizes index t in
          let are = stores.parts.2 in
          ap (λ b. cond b (word_of_bytes m.dtype true (block.element_bytes (byte_count m.dtype) elements (f_place sizes index))) 0) t
          ∙ ap (word_of_bytes m.dtype true) (are.elements index here) ∙ word_of_bytes-word_bytes m.dtype true (word index) (are.are_words index here)
      | inr t ↦
          ap (λ b. cond b (word_of_bytes m.dtype true (block.element_bytes (byte_count m.dtype) elements (f_place sizes index))) 0) t
          ∙ sym (stores.lacking index inside (λ within. let clash : true ≡ false = sym (test-IsInside sizes index within) ∙ t in cc))
    ]

-- bytes that spell words have these words
pub spelled_word_of_spells : (form : Form) (bytes : List ℕ) (word : List ℕ → ℕ) (index : List ℕ) → IsMetadata form → SpellsChunk form bytes word → IsInside (chunk_shape_of form) index → spelled_word form bytes index ≡ word index
spelled_word_of_spells (Zarr meta) bytes word index valid p inside = zarr_word (zarr_chunk.layout_of meta) bytes word index p inside
spelled_word_of_spells (N5 meta) bytes word index valid p inside = n5_word meta bytes word index valid p inside
spelled_word_of_spells (Zarr3 meta) bytes word index valid p inside = zarr_word (zarr3_chunk.layout_of meta) bytes word index p inside
spelled_word_of_spells Local bytes word index valid p inside = absurd p

pub word_in_of_spells : (form : Form) (bytes : List ℕ) (word : List ℕ → ℕ) (index : List ℕ) → IsMetadata form → SpellsChunk form bytes word → IsInside (chunk_shape_of form) index → word_in form bytes index ≡ Some (word index)
word_in_of_spells form bytes word index valid p inside =
    ap (λ o. unless_damaged o (spelled_word form bytes index)) (no_fault_of_spells form bytes word valid p) ∙ ap Some (spelled_word_of_spells form bytes word index valid p inside)

-- the same, by the form
pub in_zarr : (form : Form) (m : zarr.Metadata) (bytes : List ℕ) (word : List ℕ → ℕ) (index : List ℕ) → form ≡ Zarr m → SpellsChunk form bytes word → IsInside (chunk_shape_of form) index → word_in form bytes index ≡ Some (word index)
in_zarr form m bytes word index is =
    subst (λ f. SpellsChunk f bytes word → IsInside (chunk_shape_of f) index → word_in f bytes index ≡ Some (word index)) (sym is)
    (λ p inside. ap (λ o. unless_damaged o (spelled_word (Zarr m) bytes index)) (zarr_no_fault (zarr_chunk.layout_of m) bytes word p) ∙ ap Some (zarr_word (zarr_chunk.layout_of m) bytes word index p inside))

pub in_zarr3 : (form : Form) (m : zarr3.Metadata) (bytes : List ℕ) (word : List ℕ → ℕ) (index : List ℕ) → form ≡ Zarr3 m → SpellsChunk form bytes word → IsInside (chunk_shape_of form) index → word_in form bytes index ≡ Some (word index)
in_zarr3 form m bytes word index is =
    subst (λ f. SpellsChunk f bytes word → IsInside (chunk_shape_of f) index → word_in f bytes index ≡ Some (word index)) (sym is)
    (λ p inside. ap (λ o. unless_damaged o (spelled_word (Zarr3 m) bytes index)) (zarr_no_fault (zarr3_chunk.layout_of m) bytes word p) ∙ ap Some (zarr_word (zarr3_chunk.layout_of m) bytes word index p inside))

pub in_n5 : (form : Form) (m : n5.Metadata) (bytes : List ℕ) (word : List ℕ → ℕ) (index : List ℕ) → n5.IsMetadata m → form ≡ N5 m → SpellsChunk form bytes word → IsInside (chunk_shape_of form) index → word_in form bytes index ≡ Some (word index)
in_n5 form m bytes word index valid is =
    subst (λ f. SpellsChunk f bytes word → IsInside (chunk_shape_of f) index → word_in f bytes index ≡ Some (word index)) (sym is)
    (λ p inside. word_in_of_spells (N5 m) bytes word index valid p inside)

-- a word of a chunk of one word is that one
pub filled_word : (shape : List ℕ) (fill : ℕ) (index : List ℕ) → IsInside shape index → get_or (replicate (cell_count shape) fill) (c_place shape index) 0 ≡ fill
filled_word shape fill index inside = get_or-replicate (cell_count shape) (c_place shape index) fill 0 (c_place-lt shape index inside)

zarr_len : (m : chunk.Layout) (bytes : List ℕ) → zarr_fault m bytes ≡ None → length bytes ≡ chunk.chunk_len m
zarr_len m bytes none =
    elim (true_or_false (eqb (length bytes) (chunk.chunk_len m))) [
      | inl same ↦ eqb-true (length bytes) (chunk.chunk_len m) same
      | inr other ↦ absurd (let some : zarr_fault m bytes ≡ Some (damage.Zarr (WrongLength (length bytes) (chunk.chunk_len m))) = ap (λ b. cond b None (Some (damage.Zarr (WrongLength (length bytes) (chunk.chunk_len m))))) other in
          let clash : Some (damage.Zarr (WrongLength (length bytes) (chunk.chunk_len m))) ≡ None = sym some ∙ none in let no_such : ⊥ = cc in no_such)
    ]

n5_sound : (m : n5.Metadata) (bytes : List ℕ) → n5_fault m bytes ≡ None → block_fault m bytes ≡ None
n5_sound m bytes none = by_fault (block_fault m bytes) refl
  where
    by_fault : (o : Option BlockError) → block_fault m bytes ≡ o → block_fault m bytes ≡ None
    by_fault None is = is
    by_fault (Some cause) is =
        let some : n5_fault m bytes ≡ Some (damage.N5 cause) = ap (λ q. elim q [ None ↦ None | Some e ↦ Some (damage.N5 e) ]) is in
        absurd (let clash : Some (damage.N5 cause) ≡ None = sym some ∙ none in let no_such : ⊥ = cc in no_such)

-- bytes with nothing wrong spell a chunk
pub spells_of_no_fault : (form : Form) (bytes : List ℕ) → is_local form ≡ false → ((i : ℕ) → get_or bytes i 0 < 256) → chunk_fault form bytes ≡ None → (word : List ℕ → ℕ) × SpellsChunk form bytes word
spells_of_no_fault (Zarr meta) bytes stored small none = (chunk.chunk_word (zarr_chunk.layout_of meta) bytes, SpellsChunk-from_len (zarr_chunk.layout_of meta) bytes small (zarr_len (zarr_chunk.layout_of meta) bytes none))
spells_of_no_fault (N5 meta) bytes stored small none = SpellsBlock-from_no_fault meta bytes small (n5_sound meta bytes none)
spells_of_no_fault (Zarr3 meta) bytes stored small none = (chunk.chunk_word (zarr3_chunk.layout_of meta) bytes, SpellsChunk-from_len (zarr3_chunk.layout_of meta) bytes small (zarr_len (zarr3_chunk.layout_of meta) bytes none))
spells_of_no_fault Local bytes stored small none = absurd (let no_such : ⊥ = cc in no_such)
