use Rattle.std.proofs.Common.{◌≡◌, ◌*◌, length, get_or, refl, sym, ap, subst, ◌∙◌, arith}
use Rattle.std.proofs.lemmas.Result.{IfOk-weaker}
use Rattle.chunk_elements.specs.Bytes.{byte_count}
use Rattle.chunk_elements.specs.Places.{cell_count, c_place}
use Rattle.zarr3_chunks.specs.Chunk.{SpellsChunk, layout_of}
use Rattle.chunk_elements.specs.Words.{AreSpelled}
use Rattle.chunk_elements.proofs.Laws.{SpellsChunk-from_c}
use Rattle.zarr3_chunks.proofs.chunk.read_cells.Goals as goal

pub dense_of-requires : goal.dense_of-requires
dense_of-requires c =
    let shape : c.wrap.result ≡ c.m.inside.chunks = c.wrap.ensures ∙ c.in_ok-shape.ensures.items ∙ c.items.ensures in
    record {
      rank = omega (arith, ap length shape, c.m.invariant.ranks, c.m.invariant.shape.rank);
      small = rw shape c.m.invariant.chunks.volume;
      full = c.requires.full ∙ ap (λ m. cell_count m.chunks * byte_count m.dtype) (sym c.m.view_is) ∙ ap (λ l. cell_count l * byte_count c.m.inside.dtype) (sym shape);
    }

pub returns-clause-spells : goal.returns-clause-spells
returns-clause-spells c =
    let shape : c.wrap.result ≡ c.m.inside.chunks = c.wrap.ensures ∙ c.in_ok-shape.ensures.items ∙ c.items.ensures in
    let d = c.in_ok-cells.cells in
    let s = subst (λ l. AreSpelled c.m.inside.dtype c.m.inside.big (cell_count l) c.args.bytes.now d.words) shape c.in_ok-cells.ensures.words in
    let at : d.shape ≡ c.args.m.now.chunks = c.in_ok-cells.ensures.shape ∙ shape ∙ ap (λ m. m.chunks) c.m.view_is in
    subst (λ l. SpellsChunk c.args.m.now c.args.bytes.now (λ index. get_or d.words (c_place l index) 0)) (sym at)
    (subst (λ m. SpellsChunk m c.args.bytes.now (λ index. get_or d.words (c_place m.chunks index) 0)) c.m.view_is
    (SpellsChunk-from_c _ c.args.bytes.now d.words refl s.full s.are_words s.spelled))
