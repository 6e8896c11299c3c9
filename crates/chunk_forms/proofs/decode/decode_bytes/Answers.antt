use Rattle.std.proofs.Common.{rules, subst}
use Rattle.std.specs.Result.{IfOk}
use Rattle.std.proofs.lemmas.Result.{IfOk-weaker}
use Rattle.zarr_chunks.specs.Elements.{word_at}
use Rattle.n5_blocks.specs.Metadata.{IsMetadata}
use Rattle.chunk_forms.specs.Grammar.{SpellsChunk}
use Rattle.chunk_forms.proofs.Laws.{in_zarr, in_zarr3, in_n5}
use Rattle.chunk_forms.proofs.decode.decode_bytes.Goals as goal

pub returns-in-Zarr-clause-words : goal.returns-in-Zarr-clause-words
returns-in-Zarr-clause-words c =
    let spells : IfOk c.of_zarr.result (λ d. SpellsChunk c.args.form.now c.args.bytes.now (word_at d)) = search rules in
    IfOk-weaker c.of_zarr.result _ _ (λ d p index inside. in_zarr c.args.form.now c.in-Zarr.meta c.args.bytes.now (word_at d) index c.in-Zarr.is p inside) spells

pub returns-in-N5-clause-words : goal.returns-in-N5-clause-words
returns-in-N5-clause-words c =
    let spells : IfOk c.of_n5.result (λ d. SpellsChunk c.args.form.now c.args.bytes.now (word_at d)) = search rules in
    IfOk-weaker c.of_n5.result _ _
    (λ d p index inside. in_n5 c.args.form.now c.in-N5.meta c.args.bytes.now (word_at d) index (subst IsMetadata c.meta.view_is c.meta.invariant) c.in-N5.is p inside) spells

pub returns-in-Zarr3-clause-words : goal.returns-in-Zarr3-clause-words
returns-in-Zarr3-clause-words c =
    let spells : IfOk c.of_zarr-in-Zarr3.result (λ d. SpellsChunk c.args.form.now c.args.bytes.now (word_at d)) = search rules in
    IfOk-weaker c.of_zarr-in-Zarr3.result _ _ (λ d p index inside. in_zarr3 c.args.form.now c.in-Zarr3.meta c.args.bytes.now (word_at d) index c.in-Zarr3.is p inside) spells
