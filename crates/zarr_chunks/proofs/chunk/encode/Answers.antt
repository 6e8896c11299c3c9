use Rattle.std.proofs.Common.{List, ℕ, sym, ap, subst, ◌∙◌}
use Rattle.std.proofs.lemmas.Result.{IfOk-weaker}
use Rattle.zarr_chunks.specs.Chunk.{layout_of}
use Rattle.zarr_chunks.specs.Metadata.{Metadata}
use Rattle.chunk_elements.specs.Items.{SpellsItems}
use Rattle.chunk_elements.proofs.Laws.{SpellsChunk-from_items}
use Rattle.zarr_chunks.proofs.chunk.encode.Goals as goal

pub returns-in-C : goal.returns-in-C
returns-in-C c =
    IfOk-weaker c.from_slice.result _ _
    (λ v s. SpellsChunk-from_items (layout_of c.args.m.now) v.items c.args.d.now
    (ap (λ (m : Metadata). m.order) (sym c.m.view_is) ∙ c.in-C.is) (ap (λ (m : Metadata). m.big) (sym c.m.view_is) ∙ c.if-not-m.true)
    c.requires.dtype c.requires.shape c.bytes.ensures.well_formed
    (subst (λ (b : List ℕ). SpellsItems c.args.d.now.dtype b c.args.d.now.words) (sym s) c.bytes.ensures.spells))
    c.from_slice.ensures.items
