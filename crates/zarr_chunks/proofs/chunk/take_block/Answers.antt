use Rattle.std.proofs.Common.{◌≡◌, ◌*◌, All, length, get_or, refl, sym, ap, subst, ◌∙◌, arith}
use Rattle.std.proofs.lemmas.Result.{IfOk-weaker}
use Rattle.chunk_elements.specs.Blocks.{AreStored, AreWithin, AddsBlock, StoresWords}
use Rattle.chunk_elements.specs.Bytes.{byte_count}
use Rattle.chunk_elements.specs.Numbers.{IsWord}
use Rattle.chunk_elements.specs.Places.{cell_count, c_place}
use Rattle.chunk_elements.specs.Words.{AreSpelled, SpellsWords}
use Rattle.zarr_chunks.specs.Chunk.{SpellsChunk, layout_of}
use Rattle.chunk_elements.proofs.Laws.{SpellsChunk-from_c, SpellsChunk-from_f, chunk_cells, within-same}
use Rattle.zarr_chunks.proofs.chunk.take_block.Goals as goal

pub dense_of_block-requires : goal.dense_of_block-requires
dense_of_block-requires c =
    let shape : c.wrap.result ≡ c.m.inside.chunks = c.wrap.ensures ∙ c.in_ok-shape.ensures.items ∙ c.items.ensures in
    let sizes : c.items-2.result.now ≡ c.m.inside.chunks = c.items-2.ensures in
    record {
      rank = omega (arith, ap length shape, c.m.invariant.ranks, c.m.invariant.shape.rank);
      within = rw (shape, sizes) (within-same c.m.inside.chunks);
      cells = rw shape (chunk_cells c.m.inside.chunks c.m.invariant.chunks);
      volume = rw shape c.m.invariant.chunks.volume;
      full = c.requires.full ∙ ap (λ m. cell_count m.chunks * byte_count m.dtype) (sym c.m.view_is) ∙ ap (λ l. cell_count l * byte_count c.m.inside.dtype) (sym sizes);
    }

pub returns-clause-spells : goal.returns-clause-spells
returns-clause-spells c =
    let shape : c.wrap.result ≡ c.m.inside.chunks = c.wrap.ensures ∙ c.in_ok-shape.ensures.items ∙ c.items.ensures in
    let sizes : c.items-2.result.now ≡ c.m.inside.chunks = c.items-2.ensures in
    let d = c.in_ok-cells.cells in
    let s = subst (λ l. AreStored c.m.inside.dtype c.m.inside.big l c.m.inside.chunks c.args.bytes.now d.words) shape
    (subst (λ l. AreStored c.m.inside.dtype c.m.inside.big c.wrap.result l c.args.bytes.now d.words) sizes c.in_ok-cells.ensures.words) in
    let at : d.shape ≡ c.args.m.now.chunks = c.in_ok-cells.ensures.shape ∙ shape ∙ ap (λ m. m.chunks) c.m.view_is in
    subst (λ l. SpellsChunk c.args.m.now c.args.bytes.now (λ index. get_or d.words (c_place l index) 0)) (sym at)
    (subst (λ m. SpellsChunk m c.args.bytes.now (λ index. get_or d.words (c_place m.chunks index) 0)) c.m.view_is
    (SpellsChunk-from_f _ c.args.bytes.now d.words (ap (λ m. m.order) c.m.view_is ∙ c.requires.order) s.full s.are_words s.stored))
