-- Only the last run that begins at the place or before it may have the place.
use Rattle.std.proofs.Common.{◌≡◌, ◌∙◌, ◌+◌, ◌-◌, ◌<◌, ◌^◌, ℕ, Some, List, Option, length, get_or, ap, sym, subst, arith}
use Rattle.rebase_writes.specs.Rising.{runs_staged}
use Rattle.rebase_writes.specs.Staged.{staged_at}
use Rattle.cells.specs.Runs.{view_place, chunk_place}
use Rattle.rebase_writes.proofs.RisingLaws.{no_run, begins_rise, runs_missed, from_first, none_before, run_shown}
use Rattle.rebase_writes.proofs.rising.word_at.Goals as goal

pub begun-count-requires : goal.begun-count-requires
begun-count-requires c = begins_rise (length c.args.words.now) (2 ^ 24) c.args.runs.now c.requires

pub returns-then-count-eq0-clause-none : goal.returns-then-count-eq0-clause-none
returns-then-count-eq0-clause-none c cells =
    runs_missed c.args.runs.now c.args.words.now cells c.args.place (λ i d inside k less same.
    let behind = c.begun-count.ensures.back i d (omega (arith, c.if-count-eq0.true)) inside in
    let first = from_first (get_or c.args.runs.now i d) k (c.requires.forward i d inside).places in
    omega (arith, behind, first, same))

pub bounds-words-run : goal.bounds-words-run
bounds-words-run c =
    let i = c.begun-count.result - 1 in
    let inside : i < length c.args.runs.now = omega (arith, c.begun-count.ensures.few, c.if-count-eq0.false) in
    let found = c.in-Some.ensures.some in
    let view = (c.requires.inside i no_run inside).in_view c.in-Some.k found.0 in
    omega (arith, view)

pub returns-in-Some-clause-some : goal.returns-in-Some-clause-some
returns-in-Some-clause-some c cells are =
    let i = c.begun-count.result - 1 in
    let inside : i < length c.args.runs.now = omega (arith, c.begun-count.ensures.few, c.if-count-eq0.false) in
    let found = c.in-Some.ensures.some in
    ap (λ p. staged_at (runs_staged c.args.runs.now c.args.words.now cells) p) (sym found.1)
    ∙ run_shown c.args.words.now cells c.args.runs.now are i no_run c.in-Some.k inside found.0

pub returns-in-None-clause-none : goal.returns-in-None-clause-none
returns-in-None-clause-none c cells =
    none_before c.args.words.now c.args.runs.now c.args.place c.begun-count.result c.requires (omega (arith, c.if-count-eq0.false)) c.begun-count.ensures.few
    c.begun-count.ensures.front c.begun-count.ensures.back c.in-None.ensures.none cells
