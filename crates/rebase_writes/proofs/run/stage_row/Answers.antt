-- One pair more has its word.
use Rattle.std.proofs.Common.{◌≡◌, ◌∙◌, ◌<◌, inl, inr, arith}
use Rattle.rebase_writes.proofs.RowLaws.{row_staged}
use Rattle.rebase_writes.proofs.run.stage_row.Goals as goal

pub returns : goal.returns
returns c count full =
    row_staged c.args.run.now count c.args.words.now c.args.marks.now c.args.staged.now c.mark_range.new.marks c.loop-pair.staged full (c.loop-pair.invariant.size ∙ full) c.requires.step
    c.mark_range.ensures.here
    (λ place out. elim out [
      | inl before ↦ c.mark_range.ensures.before place before
      | inr behind ↦ c.mark_range.ensures.behind place behind
    ])
    (λ k less. c.loop-pair.invariant.done k (omega (arith, less, c.loop-pair-test.false)))
    (λ place none. c.loop-pair.invariant.rest place (λ k below. none k (omega (arith, below, c.loop-pair.auto.pair-end))))
