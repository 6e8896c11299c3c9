use Rattle.std.proofs.Common.{◌≡◌, List, ℕ, sym, ap, subst, ◌∙◌}
use Rattle.chunk_elements.specs.Items.{SpellsItems}
use Rattle.chunk_elements.specs.declared.Dtype.{Dtype}
use Rattle.zarr_chunks.specs.Chunk.{layout_of}
use Rattle.zarr_chunks.specs.Metadata.{Metadata}
use Rattle.chunk_elements.proofs.Laws.{SpellsChunk-from_items}
use Rattle.zarr_chunks.proofs.chunk.keep_bytes.Goals as goal

pub returns-clause-spells : goal.returns-clause-spells
returns-clause-spells c =
    let d = c.from_bytes.result in
    let shape : c.wrap.result ≡ c.m.inside.chunks = c.wrap.ensures ∙ c.in_ok-shape.ensures.items ∙ c.items.ensures in
    let here : SpellsItems c.m.inside.dtype c.args.bytes.now d.words = subst (λ (b : List ℕ). SpellsItems c.m.inside.dtype b d.words) c.in_ok-items.ensures.items c.from_bytes.ensures.spells in
    SpellsChunk-from_items (layout_of c.args.m.now) c.args.bytes.now d c.requires.order c.requires.little
    (c.from_bytes.ensures.dtype ∙ ap (λ (m : Metadata). m.dtype) c.m.view_is)
    (c.from_bytes.ensures.shape ∙ shape ∙ ap (λ (m : Metadata). m.chunks) c.m.view_is)
    c.from_bytes.ensures.well_formed
    (subst (λ (t : Dtype). SpellsItems t c.args.bytes.now d.words) (sym c.from_bytes.ensures.dtype) here)
