-- One pair more shows one word more, where one is staged.
use Rattle.std.proofs.Common.{◌≡◌, ◌+◌, ◌<◌, ◌∙◌, ◌^◌, ℕ, None, Some, List, Option, length, replicate, set, sym, ap, subst, arith}
use Rattle.std.proofs.lemmas.Int.{ints}
use Rattle.cells.specs.Runs.{pairs_of, first_pairs, view_place, chunk_place}
use Rattle.cells.proofs.Laws.{first_pairs-all}
use Rattle.rebase_writes.specs.Staged.{staged_at}
use Rattle.rebase_writes.specs.Rising.{AreRising, runs_staged}
use Rattle.rebase_writes.specs.Runs.{pairs_shown, shown_at}
use Rattle.rebase_writes.proofs.RunLaws.{pairs_shown-more}
use Rattle.rebase_writes.proofs.RisingLaws.{none_at, rising_over, rising_wider}
use Rattle.rebase_writes.proofs.rising.show_staged.Goals as goal
use Rattle.rebase_writes.proofs.rising.show_staged.Goals.{in-Some, in_default}

pub word_at-requires : goal.word_at-requires
word_at-requires c = rising_wider (length c.args.kept.now) c.requires.rising.0 (2 ^ 24) c.args.runs.now c.requires.rising.1.1.1 c.requires.rising.1.0

pub loop-pair-preserved : goal.loop-pair-preserved
loop-pair-preserved c cells are =
    let staged = runs_staged c.args.runs.now c.args.kept.now (replicate cells None) in
    let out = c.loop-pair.out in
    let view = c.pair_at-view.result.0 in
    let place = c.pair_at-view.result.1 in
    let more : shown_at out view (staged_at staged place) ≡ pairs_shown (pairs_of (first_pairs c.args.run.now (c.loop-pair.pair + 1))) staged c.args.out.now =
    rw (c.pair_at-view.ensures.view, c.pair_at-view.ensures.chunk, c.loop-pair.invariant cells are) (sym (pairs_shown-more c.args.run.now staged c.args.out.now c.loop-pair.pair)) in
    elim c.match-word_at.branch [
      | in-Some w ↦ w.out-is ∙ ap (shown_at out view) (sym (w.in-Some.ensures.some (replicate cells None) (rising_over _ cells c.args.runs.now are))) ∙ more
      | in_default w ↦ w.out-is ∙ ap (shown_at out view) (sym (w.in_default.ensures.none (replicate cells None) ∙ none_at cells place)) ∙ more
    ]

pub returns : goal.returns
returns c cells are inside =
    let all = first_pairs-all c.args.run.now c.loop-pair.pair (omega arith) in
    c.loop-pair.invariant cells are ∙ ap (λ run. pairs_shown (pairs_of run) (runs_staged c.args.runs.now c.args.kept.now (replicate cells None)) c.args.out.now) all
