-- The run has each place from its begin to its end.
use Rattle.std.proofs.Common.{◌≡◌, ◌∙◌, ◌+◌, ◌-◌, ◌<◌, ◌≤◌, ◌^◌, ℕ, pos, Some, IsSome, List, Option, length, get_or, ap, sym, subst, refl, arith, unsigned_abs}
use Rattle.rebase_writes.specs.Rising.{runs_staged}
use Rattle.rebase_writes.specs.Staged.{staged_at}
use Rattle.cells.specs.Runs.{view_place, chunk_place}
use Rattle.rebase_writes.proofs.RisingLaws.{no_run, begins_rise, run_shown, forward_place}
use Rattle.rebase_writes.proofs.rising.has_range.Goals as goal

pub begun-count-requires : goal.begun-count-requires
begun-count-requires c = begins_rise c.requires.rising.0 (2 ^ 24) c.args.runs.now c.requires.rising.1

pub returns-then-to-run : goal.returns-then-to-run
returns-then-to-run c is_true words cells are place from to =
    let i = c.begun-count.result - 1 in
    let inside : i < length c.args.runs.now = omega (arith, c.begun-count.ensures.few, c.if-count-eq0.false) in
    let run = get_or c.args.runs.now i no_run in
    let begin = c.begun-count.ensures.front i no_run (omega (arith, c.if-count-eq0.false)) in
    let k = place - run.chunk in
    let forward = are.forward i no_run inside in
    let one : run.chunk_step ≡ pos 1 = c.is_row.ensures c.if-is_row.true in
    let at : chunk_place run k ≡ place = forward_place run.chunk k run.chunk_step forward.places ∙ rw one (omega (arith, from, begin)) in
    let shown = run_shown words cells c.args.runs.now are i no_run k inside (omega (arith, c.if-to-run.true, from, to, begin)) in
    subst (λ (o : Option ℕ). IsSome o) (sym (ap (λ p. staged_at (runs_staged c.args.runs.now words cells) p) (sym at) ∙ shown)) refl
