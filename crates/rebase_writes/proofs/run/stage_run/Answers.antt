-- One pair more stages one cell more.
use Rattle.std.proofs.Common.{◌≡◌, refl, length, sym, ◌∙◌, ap, arith}
use Rattle.std.proofs.lemmas.Int.{ints}
use Rattle.cells.specs.Runs.{pairs_of}
use Rattle.cells.proofs.Laws.{first_pairs-all}
use Rattle.rebase_writes.specs.Marks.{marks_of}
use Rattle.rebase_writes.specs.Runs.{pairs_written}
use Rattle.rebase_writes.specs.Staged.{staged_cells}
use Rattle.rebase_writes.proofs.RunLaws.{pairs_written-more}
use Rattle.rebase_writes.proofs.run.stage_run.Goals as goal

pub loop-pair-init : goal.loop-pair-init
loop-pair-init c count full = refl

pub stage_cell-requires-clause-inside : goal.stage_cell-requires-clause-inside
stage_cell-requires-clause-inside c =
    omega (arith, ints, c.pair_at-view.ensures.chunk, c.requires.inside.from_first c.loop-pair.pair c.loop-pair-test.true, c.requires.inside.to_last c.loop-pair.pair c.loop-pair-test.true)

pub loop-pair-preserved : goal.loop-pair-preserved
loop-pair-preserved c count full =
    let more = pairs_written-more c.args.run.now c.args.words.now (staged_cells (marks_of count c.args.marks.now) c.args.staged.now) c.loop-pair.pair in
    c.stage_cell.ensures count (omega (arith, full))
    ∙ (rw (c.pair_at-view.ensures.view, c.pair_at-view.ensures.chunk, c.loop-pair.invariant count full) (sym more))

pub returns : goal.returns
returns c count full =
    let all = first_pairs-all c.args.run.now c.loop-pair.pair (omega arith) in
    c.loop-pair.invariant count full ∙ ap (λ run. pairs_written (pairs_of run) c.args.words.now (staged_cells (marks_of count c.args.marks.now) c.args.staged.now)) all
