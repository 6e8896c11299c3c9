use Rattle.std.proofs.Common.{◌∙◌, sym, subst}
use Rattle.std.specs.Prelude.{option_map}
use Rattle.rebase_writes.specs.Staged.{AreWords}
use Rattle.chunk_plans.proofs.LeftLaws.{laid_of, may_write, is_left_as}
use Rattle.chunk_plans.proofs.leaving.left_over.Goals as goal

pub lay-requires-clause-words : goal.lay-requires-clause-words
lay-requires-clause-words c = subst (λ d. AreWords d c.args.staged.now) (sym c.dtype.ensures) c.requires.words

pub encode_form-requires-clause-may : goal.encode_form-requires-clause-may
encode_form-requires-clause-may c =
    may_write c.args.form.now c.args.chunk.now c.args.staged.now (option_map (λ b. b.now) c.args.base) c.in_ok-cells.cells c.requires.reached
    (laid_of c.args.form.now c.args.chunk.now c.args.staged.now (option_map (λ b. b.now) c.args.base) c.in_ok-cells.cells c.shape.result.now c.chunk_shape.result.now c.fill.result c.shape.ensures c.chunk_shape.ensures.value c.fill.ensures c.in_ok-cells.ensures.words)

pub returns : goal.returns
returns c =
    is_left_as c.args.form.now c.args.chunk.now c.args.staged.now (option_map (λ b. b.now) c.args.base) c.in_ok-cells.cells c.fill-2.result c.in_ok-bytes.bytes
    (laid_of c.args.form.now c.args.chunk.now c.args.staged.now (option_map (λ b. b.now) c.args.base) c.in_ok-cells.cells c.shape.result.now c.chunk_shape.result.now c.fill.result c.shape.ensures c.chunk_shape.ensures.value c.fill.ensures c.in_ok-cells.ensures.words)
    (c.in_ok-cells.ensures.dtype ∙ c.dtype.ensures) (c.in_ok-cells.ensures.shape ∙ c.chunk_shape.ensures.value) c.fill-2.ensures c.count.ensures.well_formed.full c.in_ok-bytes.ensures.absent c.in_ok-bytes.ensures.written
