-- One pair more shows one word more, where one is staged.
use Rattle.std.proofs.Common.{◌≡◌, ◌+◌, ◌∙◌, refl, length, sym, ap, arith}
use Rattle.std.proofs.lemmas.Int.{ints}
use Rattle.cells.specs.Runs.{pairs_of, first_pairs}
use Rattle.cells.proofs.Laws.{first_pairs-all}
use Rattle.rebase_writes.specs.Marks.{marks_of}
use Rattle.rebase_writes.specs.Runs.{pairs_shown, shown_at}
use Rattle.rebase_writes.specs.Staged.{staged_cells, staged_at}
use Rattle.rebase_writes.proofs.RunLaws.{pairs_shown-more}
use Rattle.rebase_writes.proofs.run.show_run.Goals as goal
use Rattle.rebase_writes.proofs.run.show_run.Goals.{in-Some, in_default}

pub loop-pair-init : goal.loop-pair-init
loop-pair-init c count full = refl

pub marked_word-requires-clause-inside : goal.marked_word-requires-clause-inside
marked_word-requires-clause-inside c =
    omega (arith, ints, c.pair_at-view.ensures.chunk, c.requires.inside.from_first c.loop-pair.pair c.loop-pair-test.true, c.requires.inside.to_last c.loop-pair.pair c.loop-pair-test.true)

pub loop-pair-preserved : goal.loop-pair-preserved
loop-pair-preserved c count full =
    let cells = staged_cells (marks_of count c.args.marks.now) c.args.staged.now in
    let run = c.args.run.now in
    let out = c.loop-pair.out in
    let view = c.pair_at-view.result.0 in
    let place = c.pair_at-view.result.1 in
    let more : shown_at out view (staged_at cells place) ≡ pairs_shown (pairs_of (first_pairs run (c.loop-pair.pair + 1))) cells c.args.out.now =
    rw (c.pair_at-view.ensures.view, c.pair_at-view.ensures.chunk, c.loop-pair.invariant count full) (sym (pairs_shown-more run cells c.args.out.now c.loop-pair.pair)) in
    elim c.match-marked_word.branch [
      | in-Some w ↦ w.out-is ∙ ap (shown_at out view) (w.in-Some.ensures count full) ∙ more
      | in_default w ↦ w.out-is ∙ ap (shown_at out view) (w.in_default.ensures count full) ∙ more
    ]

pub returns : goal.returns
returns c count full =
    let all = first_pairs-all c.args.run.now c.loop-pair.pair (omega arith) in
    c.loop-pair.invariant count full ∙ ap (λ run. pairs_shown (pairs_of run) (staged_cells (marks_of count c.args.marks.now) c.args.staged.now) c.args.out.now) all
