use Rattle.std.proofs.Common.{Some, ◌∙◌, sym, subst}
use Rattle.rebase_writes.specs.Staged.{AreWords}
use Rattle.chunk_plans.proofs.LeftLaws.{laid_of, may_write, is_left_as}
use Rattle.chunk_plans.proofs.leaving.left_in.Goals as goal

pub lay_in-cells-requires-clause-words : goal.lay_in-cells-requires-clause-words
lay_in-cells-requires-clause-words c = subst (λ d. AreWords d c.args.staged.now) (sym c.requires.base_dtype) c.requires.words

pub encode_form-requires-clause-may : goal.encode_form-requires-clause-may
encode_form-requires-clause-may c =
    may_write c.args.form.now c.args.chunk.now c.args.staged.now (Some c.args.base) c.lay_in-cells.result c.requires.reached
    (laid_of c.args.form.now c.args.chunk.now c.args.staged.now (Some c.args.base) c.lay_in-cells.result c.shape.result.now c.chunk_shape.result.now c.fill.result c.shape.ensures c.chunk_shape.ensures.value c.fill.ensures c.lay_in-cells.ensures.words)

pub returns : goal.returns
returns c =
    is_left_as c.args.form.now c.args.chunk.now c.args.staged.now (Some c.args.base) c.lay_in-cells.result c.fill-2.result c.in_ok-bytes.bytes
    (laid_of c.args.form.now c.args.chunk.now c.args.staged.now (Some c.args.base) c.lay_in-cells.result c.shape.result.now c.chunk_shape.result.now c.fill.result c.shape.ensures c.chunk_shape.ensures.value c.fill.ensures c.lay_in-cells.ensures.words)
    (c.lay_in-cells.ensures.dtype ∙ c.requires.base_dtype) (c.lay_in-cells.ensures.shape ∙ c.chunk_shape.ensures.value) c.fill-2.ensures c.count.ensures.well_formed.full c.in_ok-bytes.ensures.absent c.in_ok-bytes.ensures.written
