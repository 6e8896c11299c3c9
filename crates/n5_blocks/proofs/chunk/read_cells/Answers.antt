use Rattle.std.proofs.Common.{◌≡◌, ◌<◌, ℕ, List, true, length, get_or, drop, take, None, refl, sym, ap, subst, ◌∙◌, arith}
use Rattle.std.proofs.Math.Seq.{take-length}
use Rattle.std.proofs.lemmas.List.{length-drop}
use Rattle.chunk_elements.specs.Blocks.{AreStored}
use Rattle.chunk_elements.specs.Places.{cell_count}
use Rattle.chunk_elements.proofs.Laws.{cell_count-pos}
use Rattle.n5_blocks.specs.Metadata.{Metadata}
use Rattle.n5_blocks.specs.Block.{SpellsBlock, word_at}
use Rattle.n5_blocks.specs.Faults.{block_fault, header_len, sizes_in}
use Rattle.n5_blocks.proofs.BlockLaws.{SpellsBlock-dense}
use Rattle.n5_blocks.proofs.FaultLaws.{sound_from_no_fault, whole_from_no_fault}
use Rattle.n5_blocks.proofs.chunk.read_cells.Goals as goal

pub dense_of_block-requires-clause-within : goal.dense_of_block-requires-clause-within
dense_of_block-requires-clause-within c =
    let m : Metadata = record { dimensions = c.m.inside.dimensions; block = c.m.inside.block; dtype = c.m.inside.dtype } in
    let bytes = c.args.bytes.now in
    let none = subst (λ (n : Metadata). block_fault n bytes ≡ None) (sym c.m.view_is) c.requires.sound in
    let sound = sound_from_no_fault m.dtype m.block bytes (whole_from_no_fault m bytes none).cells in
    let shape : c.wrap.result ≡ m.block = c.wrap.ensures ∙ c.in_ok-shape.ensures.items ∙ c.items.ensures in
    let rank : length c.items-rank.result.now ≡ length m.block = ap length c.items-rank.ensures in
    let sizes : take (length c.items-rank.result.now) c.sizes_in-sizes.result ≡ sizes_in (length m.block) bytes = c.sizes_in-sizes.ensures ∙ ap (λ n. sizes_in n bytes) rank in
    rw (shape, sizes) sound.within

pub dense_of_block-requires-clause-cells : goal.dense_of_block-requires-clause-cells
dense_of_block-requires-clause-cells c =
    let shape : c.wrap.result ≡ c.m.inside.block = c.wrap.ensures ∙ c.in_ok-shape.ensures.items ∙ c.items.ensures in
    subst (λ l. 0 < cell_count l) (sym shape) (cell_count-pos c.m.inside.block c.m.invariant.block.least)

pub returns-clause-spells : goal.returns-clause-spells
returns-clause-spells c =
    let m : Metadata = record { dimensions = c.m.inside.dimensions; block = c.m.inside.block; dtype = c.m.inside.dtype } in
    let bytes = c.args.bytes.now in
    let d = c.in_ok-cells.cells in
    let none = subst (λ (n : Metadata). block_fault n bytes ≡ None) (sym c.m.view_is) c.requires.sound in
    let small : (i : ℕ) → get_or bytes i 0 < 256 = λ i. omega (arith, c.type_inv.bytes i) in
    let shape : c.wrap.result ≡ m.block = c.wrap.ensures ∙ c.in_ok-shape.ensures.items ∙ c.items.ensures in
    let rank : length c.items-rank.result.now ≡ length m.block = ap length c.items-rank.ensures in
    let sizes : take (length c.items-rank.result.now) c.sizes_in-sizes.result ≡ sizes_in (length m.block) bytes = c.sizes_in-sizes.ensures ∙ ap (λ n. sizes_in n bytes) rank in
    let behind : c.header_len.result ≡ header_len (length m.block) = c.header_len.ensures ∙ ap header_len rank in
    let stored : AreStored m.dtype true m.block (sizes_in (length m.block) bytes) (drop (header_len (length m.block)) bytes) d.words =
    subst (λ (n : ℕ). AreStored m.dtype true m.block (sizes_in (length m.block) bytes) (drop n bytes) d.words) behind
    (subst (λ (s : List ℕ). AreStored m.dtype true m.block s (drop c.header_len.result bytes) d.words) sizes
    (subst (λ (b : List ℕ). AreStored m.dtype true b (take (length c.items-rank.result.now) c.sizes_in-sizes.result) (drop c.header_len.result bytes) d.words) shape (subst (λ (e : List ℕ). AreStored m.dtype true c.wrap.result (take (length c.items-rank.result.now) c.sizes_in-sizes.result) e d.words) (ap (λ k. take k (drop c.header_len.result bytes)) (sym (length-drop c.header_len.result bytes)) ∙ take-length (drop c.header_len.result bytes)) c.in_ok-cells.ensures.words))) in
    subst (λ n. SpellsBlock n bytes (word_at d)) c.m.view_is
    (SpellsBlock-dense m bytes d.words d small none stored (c.in_ok-cells.ensures.shape ∙ shape) refl)
