use Rattle.std.proofs.Common.{◌≡◌, ap, refl, sym, subst, ◌∙◌}
use Rattle.std.proofs.lemmas.Result.{IfOk-weaker}
use Rattle.chunk_elements.specs.Shapes.{IsChunkShape}
use Rattle.n5_blocks.specs.Metadata.{Metadata, IsMetadata}
use Rattle.n5_blocks.specs.Block.{AreWithin, cut_sizes}
use Rattle.n5_blocks.proofs.CutLaws.{within-cut_sizes}
use Rattle.n5_blocks.proofs.BlockLaws.{WritesBlock-same}
use Rattle.n5_blocks.proofs.chunk.encode.Goals as goal

pub write_block-requires-clause-block : goal.write_block-requires-clause-block
write_block-requires-clause-block c = subst IsChunkShape (sym (c.requires.shape ∙ ap (λ (n : Metadata). n.block) (sym c.m.view_is))) c.m.invariant.block

pub write_block-requires-clause-within : goal.write_block-requires-clause-within
write_block-requires-clause-within c =
    let m = c.args.m.now in
    let rules : IsMetadata m = subst IsMetadata c.m.view_is c.m.invariant in
    let block_is : c.items.result.now ≡ m.block = c.items.ensures ∙ ap (λ (n : Metadata). n.block) c.m.view_is in
    let dimensions_is : c.items-2.result.now ≡ m.dimensions = c.items-2.ensures ∙ ap (λ (n : Metadata). n.dimensions) c.m.view_is in
    let sizes_is : c.as_slice.result.now ≡ cut_sizes m.block m.dimensions c.args.chunk.now =
    c.as_slice.ensures.value ∙ c.in_ok-sizes.ensures ∙ ap (λ b. cut_sizes b c.items-2.result.now c.args.chunk.now) block_is ∙ ap (λ d. cut_sizes m.block d c.args.chunk.now) dimensions_is in
    subst (λ b. AreWithin b c.as_slice.result.now) (sym c.requires.shape)
    (subst (λ s. AreWithin m.block s) (sym sizes_is) (within-cut_sizes m.block m.dimensions c.args.chunk.now (sym rules.ranks) (c.requires.reached.rank ∙ sym rules.ranks)))

pub returns : goal.returns
returns c =
    let m = c.args.m.now in
    let d = c.args.d.now in
    let rules : IsMetadata m = subst IsMetadata c.m.view_is c.m.invariant in
    let block_is : c.items.result.now ≡ m.block = c.items.ensures ∙ ap (λ (n : Metadata). n.block) c.m.view_is in
    let dimensions_is : c.items-2.result.now ≡ m.dimensions = c.items-2.ensures ∙ ap (λ (n : Metadata). n.dimensions) c.m.view_is in
    let sizes_is : c.as_slice.result.now ≡ cut_sizes m.block m.dimensions c.args.chunk.now =
    c.as_slice.ensures.value ∙ c.in_ok-sizes.ensures ∙ ap (λ b. cut_sizes b c.items-2.result.now c.args.chunk.now) block_is ∙ ap (λ d. cut_sizes m.block d c.args.chunk.now) dimensions_is in
    IfOk-weaker c.write_block.result _ _
    (λ bytes adds. WritesBlock-same m c.args.chunk.now bytes.items d.shape c.as_slice.result.now d.words d.dtype d c.write_block.ensures.well_formed
    c.requires.dtype c.requires.shape rules c.requires.reached c.requires.outside c.requires.dtype c.requires.shape sizes_is refl adds)
    c.write_block.ensures.adds
