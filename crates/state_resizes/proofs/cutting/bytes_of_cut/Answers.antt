use Rattle.std.proofs.Common.{◌∙◌, [], Some, sym, subst}
use Rattle.cells.specs.Numbers.{IsWord}
use Rattle.chunk_forms.specs.Metadata.{shape_of, dtype_of}
use Rattle.chunk_plans.specs.Laid.{IsChunkOf}
use Rattle.chunk_plans.proofs.Laws.{may_write, is_left}
use Rattle.state_resizes.proofs.Absent.{laid_cut}
use Rattle.state_resizes.proofs.cutting.bytes_of_cut.Goals as goal

pub cut-requires-clause-chunk : goal.cut-requires-clause-chunk
cut-requires-clause-chunk c =
    subst (λ s. IsChunkOf s c.args.base.now.shape c.args.chunk.now) (sym c.shape.ensures)
    (subst (λ n. IsChunkOf (shape_of c.args.form.now) n c.args.chunk.now) (sym c.requires.shape) c.requires.chunk)

pub cut-requires-clause-fill : goal.cut-requires-clause-fill
cut-requires-clause-fill c = subst (λ d. IsWord d c.fill.result) (sym c.requires.dtype) (subst (IsWord (dtype_of c.args.form.now)) (sym c.fill.ensures) c.requires.fill)

pub encode_form-requires-clause-may : goal.encode_form-requires-clause-may
encode_form-requires-clause-may c =
    may_write c.args.form.now c.args.chunk.now [] (Some c.args.base.now) c.in_ok-cells.cells c.requires.reached
    (laid_cut c.args.form.now c.args.chunk.now c.args.base.now c.in_ok-cells.cells c.shape.result.now c.fill.result c.shape.ensures c.fill.ensures c.requires.shape c.in_ok-cells.ensures.words)

pub returns : goal.returns
returns c =
    is_left c.args.form.now c.args.chunk.now [] (Some c.args.base.now) c.in_ok-cells.cells c.fill-2.result c.encode_form.result
    (laid_cut c.args.form.now c.args.chunk.now c.args.base.now c.in_ok-cells.cells c.shape.result.now c.fill.result c.shape.ensures c.fill.ensures c.requires.shape c.in_ok-cells.ensures.words)
    (c.in_ok-cells.ensures.shape ∙ c.requires.shape) c.fill-2.ensures c.count.ensures.well_formed.full c.encode_form.ensures.absent c.encode_form.ensures.written
