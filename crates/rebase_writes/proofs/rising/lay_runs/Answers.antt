-- One run more is laid over.
use Rattle.std.proofs.Common.{◌≡◌, ◌∙◌, ◌+◌, List, Option, ℕ, length, get_or, take, replicate, None, ap, sym, subst, arith}
use Rattle.std.proofs.lemmas.List.{length-replicate}
use Rattle.cells.specs.Dense.{DenseCells}
use Rattle.cells.specs.Numbers.{IsWord}
use Rattle.cells.specs.Runs.{view_place, pairs_of, pairs_put, IsRunInside}
use Rattle.cells.specs.declared.dtype.Dtype.{Dtype}
use Rattle.rebase_writes.specs.Staged.{laid_over}
use Rattle.rebase_writes.specs.Rising.{AreRising, runs_staged}
use Rattle.rebase_writes.proofs.StagedLaws.{length-laid_over}
use Rattle.rebase_writes.proofs.RisingLaws.{no_run, laid_none, laid_pairs, length-runs_staged, runs_more, word_shown}
use Rattle.rebase_writes.proofs.rising.lay_runs.Goals as goal

pub loop-run-init : goal.loop-run-init
loop-run-init c = ap (λ (ws : List ℕ). record c.args.chunk.now { words = ws }) (sym (laid_none c.args.chunk.now.words))

pub lay_run-requires-clause-inside : goal.lay_run-requires-clause-inside
lay_run-requires-clause-inside c =
    let none = replicate (length c.args.chunk.now.words) None in
    let size = length-laid_over (runs_staged (take c.loop-run.run-index c.args.runs.now) c.args.kept.now none) c.args.chunk.now.words
    (length-runs_staged (take c.loop-run.run-index c.args.runs.now) c.args.kept.now none ∙ length-replicate (length c.args.chunk.now.words) None) in
    subst (IsRunInside (get_or c.args.runs.now c.loop-run.run-index no_run) (length c.args.kept.now)) (sym (ap (λ (d : DenseCells). length d.words) c.loop-run.invariant ∙ size))
    (c.requires.rising.inside c.loop-run.run-index no_run c.loop-run-test.true)

pub lay_run-requires-clause-words : goal.lay_run-requires-clause-words
lay_run-requires-clause-words c k less =
    let none = replicate (length c.args.chunk.now.words) None in
    let rising = subst (λ n. AreRising (length c.args.kept.now) n c.args.runs.now) (sym (length-replicate (length c.args.chunk.now.words) None)) c.requires.rising in
    subst (λ (t : Dtype). IsWord t (get_or c.args.kept.now (view_place (get_or c.args.runs.now c.loop-run.run-index no_run) k) 0)) (sym (ap (λ (d : DenseCells). d.dtype) c.loop-run.invariant))
    (word_shown c.args.chunk.now.dtype c.args.kept.now none c.args.runs.now rising c.requires.words c.loop-run.run-index no_run k c.loop-run-test.true less)

pub loop-run-preserved : goal.loop-run-preserved
loop-run-preserved c =
    let none = replicate (length c.args.chunk.now.words) None in
    let i = c.loop-run.run-index in
    let so_far = runs_staged (take i c.args.runs.now) c.args.kept.now none in
    let size = length-runs_staged (take i c.args.runs.now) c.args.kept.now none ∙ length-replicate (length c.args.chunk.now.words) None in
    c.lay_run.ensures
    ∙ ap (λ (d : DenseCells). record d { words = pairs_put (pairs_of (get_or c.args.runs.now i no_run)) c.args.kept.now d.words }) c.loop-run.invariant
    ∙ ap (λ (ws : List ℕ). record c.args.chunk.now { words = ws })
    (sym (laid_pairs (pairs_of (get_or c.args.runs.now i no_run)) c.args.kept.now so_far c.args.chunk.now.words size)
    ∙ ap (λ all. laid_over all c.args.chunk.now.words) (sym (runs_more c.args.runs.now c.args.kept.now none i no_run c.loop-run-test.true)))
