use Rattle.std.proofs.Common.{◌≡◌, ◌<◌, ◌++◌, All, List, ℕ, length, get_or, sym, ap, subst, ◌∙◌}
use Rattle.std.proofs.lemmas.Result.{IfOk-weaker}
use Rattle.chunk_elements.specs.Blocks.{StoresWords}
use Rattle.chunk_elements.specs.Numbers.{IsWord}
use Rattle.chunk_elements.specs.Places.{cell_count, c_place}
use Rattle.zarr_chunks.specs.Chunk.{SpellsChunk}
use Rattle.chunk_elements.proofs.Laws.{SpellsChunk-from_f, chunk_cells}
use Rattle.zarr_chunks.proofs.chunk.spell_block.Goals as goal

pub put_dense-requires-clause-cells : goal.put_dense-requires-clause-cells
put_dense-requires-clause-cells c = subst (λ l. 0 < cell_count l) (sym (c.requires.shape ∙ ap (λ m. m.chunks) (sym c.m.view_is))) (chunk_cells c.m.inside.chunks c.m.invariant.chunks)

pub returns : goal.returns
returns c =
    let d = c.args.d.now in
    let dense = c.bytes.ensures.well_formed in
    let chunks : d.shape ≡ c.m.inside.chunks = c.requires.shape ∙ ap (λ m. m.chunks) (sym c.m.view_is) in
    let dtype : d.dtype ≡ c.m.inside.dtype = c.requires.dtype ∙ ap (λ m. m.dtype) (sym c.m.view_is) in
    let full : length d.words ≡ cell_count c.m.inside.chunks = dense.full ∙ ap cell_count chunks in
    let are : All (IsWord c.m.inside.dtype) d.words = subst (λ t. All (IsWord t) d.words) dtype dense.of_dtype in
    IfOk-weaker c.put_dense.result _ _
    (λ v s.
    let same : v.items ≡ s.added.0 = s.added.1 ∙ ap (λ (l : List ℕ). l ++ s.added.0) c.in_ok-bytes.ensures.items in
    let stores : StoresWords c.m.inside.dtype c.m.inside.big c.m.inside.chunks c.m.inside.chunks v.items d.words =
    subst (λ (b : List ℕ). StoresWords c.m.inside.dtype c.m.inside.big c.m.inside.chunks c.m.inside.chunks b d.words) (sym same)
    (subst (λ (l : List ℕ). StoresWords c.m.inside.dtype c.m.inside.big l c.m.inside.chunks s.added.0 d.words) chunks
    (subst (λ (l : List ℕ). StoresWords c.m.inside.dtype c.m.inside.big d.shape l s.added.0 d.words) c.items.ensures
    (subst (λ t. StoresWords t c.m.inside.big d.shape c.items.result.now s.added.0 d.words) dtype s.added.2))) in
    subst (λ l. SpellsChunk c.args.m.now v.items (λ index. get_or d.words (c_place l index) 0)) (sym c.requires.shape)
    (subst (λ m. SpellsChunk m v.items (λ index. get_or d.words (c_place m.chunks index) 0)) c.m.view_is
    (SpellsChunk-from_f _ v.items d.words (ap (λ m. m.order) c.m.view_is ∙ c.requires.order) full are stores)))
    c.put_dense.ensures
