use Rattle.std.proofs.Common.{◌≡◌, All, length, get_or, sym, ap, subst, ◌∙◌}
use Rattle.std.proofs.lemmas.Result.{IfOk-weaker}
use Rattle.chunk_elements.specs.Numbers.{IsWord}
use Rattle.chunk_elements.specs.Places.{cell_count, c_place}
use Rattle.chunk_elements.specs.Words.{SpellsWords}
use Rattle.zarr_chunks.specs.Chunk.{SpellsChunk}
use Rattle.chunk_elements.proofs.Laws.{SpellsChunk-from_c}
use Rattle.zarr_chunks.proofs.chunk.spell_elements.Goals as goal

pub returns : goal.returns
returns c =
    let dense = c.bytes_of_dense.ensures.well_formed in
    let d = c.args.d.now in
    let dtype : d.dtype ≡ c.m.inside.dtype = c.requires.dtype ∙ ap (λ m. m.dtype) (sym c.m.view_is) in
    let full : length d.words ≡ cell_count c.m.inside.chunks = dense.full ∙ ap cell_count c.requires.shape ∙ ap (λ m. cell_count m.chunks) (sym c.m.view_is) in
    let are : All (IsWord c.m.inside.dtype) d.words = subst (λ t. All (IsWord t) d.words) dtype dense.of_dtype in
    IfOk-weaker c.bytes_of_dense.result _ _
    (λ v s. subst (λ l. SpellsChunk c.args.m.now v.items (λ index. get_or d.words (c_place l index) 0)) (sym c.requires.shape)
    (subst (λ m. SpellsChunk m v.items (λ index. get_or d.words (c_place m.chunks index) 0)) c.m.view_is
    (SpellsChunk-from_c _ v.items d.words (ap (λ m. m.order) c.m.view_is ∙ c.requires.order) full are (subst (λ t. SpellsWords t c.m.inside.big v.items d.words) dtype s))))
    c.bytes_of_dense.ensures.spells
