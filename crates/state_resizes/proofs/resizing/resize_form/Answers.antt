use Rattle.std.proofs.Common.{Err, length, sym, ap, subst, ◌∙◌}
use Rattle.cells.specs.Shapes.{IsChunkShape}
use Rattle.history.specs.History.{History}
use Rattle.state_resizes.specs.Answers.{IsResize}
use Rattle.state_resizes.specs.declared.error.ResizeError.TheVariants as error
use Rattle.state_resizes.proofs.Begin.{counted, few_cut, many_cut, may_count, not_counted}
use Rattle.state_resizes.proofs.Outcome.{too_many}
use Rattle.state_resizes.proofs.resizing.resize_form.Goals as goal

pub count_cut-requires-clause-chunks : goal.count_cut-requires-clause-chunks
count_cut-requires-clause-chunks g c = subst IsChunkShape (sym c.chunk_shape.ensures.value) (may_count c.args.array c.args.shape.now c.args.form.now c.requires.agrees c.requires.asked c.requires.form).chunks

pub count_cut-requires-clause-old : goal.count_cut-requires-clause-old
count_cut-requires-clause-old g c = ap length c.shape.ensures ∙ (may_count c.args.array c.args.shape.now c.args.form.now c.requires.agrees c.requires.asked c.requires.form).old ∙ ap length (sym c.chunk_shape.ensures.value)

pub count_cut-requires-clause-new : goal.count_cut-requires-clause-new
count_cut-requires-clause-new g c = (may_count c.args.array c.args.shape.now c.args.form.now c.requires.agrees c.requires.asked c.requires.form).new ∙ ap length (sym c.chunk_shape.ensures.value)

pub returns-then-is_none : goal.returns-then-is_none
returns-then-is_none g c =
    let seen = g.K.KvStore.seen in
    let store = seen c.args.state.now.store in
    let log = c.args.state.now.log in
    let shape = c.args.shape.now in
    let many = not_counted c.count_cut.result _ _ c.count_cut.ensures c.if-is_none.ensures in
    subst (λ (h : History). IsResize c.args.owner c.args.array shape store store log log (Err (error.TooManyChunks (length h)))) (sym c.events.ensures)
    (too_many c.args.owner c.args.array shape store log
    (many_cut c.args.array shape c.args.form.now c.requires.agrees c.requires.asked c.requires.form c.chunk_shape.result.now c.shape.result.now c.chunk_shape.ensures.value c.shape.ensures many))

pub cut_chunks-requires-clause-chunks : goal.cut_chunks-requires-clause-chunks
cut_chunks-requires-clause-chunks g c = subst IsChunkShape (sym c.chunk_shape-2.ensures.value) (may_count c.args.array c.args.shape.now c.args.form.now c.requires.agrees c.requires.asked c.requires.form).chunks

pub cut_chunks-requires-clause-old : goal.cut_chunks-requires-clause-old
cut_chunks-requires-clause-old g c = ap length c.shape-2.ensures ∙ (may_count c.args.array c.args.shape.now c.args.form.now c.requires.agrees c.requires.asked c.requires.form).old ∙ ap length (sym c.chunk_shape-2.ensures.value)

pub cut_chunks-requires-clause-new : goal.cut_chunks-requires-clause-new
cut_chunks-requires-clause-new g c = (may_count c.args.array c.args.shape.now c.args.form.now c.requires.agrees c.requires.asked c.requires.form).new ∙ ap length (sym c.chunk_shape-2.ensures.value)

pub resize_chunks-requires-clause-cut : goal.resize_chunks-requires-clause-cut
resize_chunks-requires-clause-cut g c =
    few_cut c.args.array c.args.shape.now c.args.form.now c.requires.agrees c.requires.asked c.requires.form c.chunk_shape.result.now c.shape.result.now c.chunk_shape-2.result.now c.shape-2.result.now c.items.result.now c.chunk_shape.ensures.value c.shape.ensures
    (counted c.count_cut.result _ _ c.count_cut.ensures c.if-is_none.ensures) c.chunk_shape-2.ensures.value c.shape-2.ensures (c.items.ensures ∙ c.in-Ok.ensures)
