-- No run has a place between the end of the last one that begins before and the begin of the next.
use Rattle.std.proofs.Common.{◌≡◌, ◌∙◌, ◌+◌, ◌-◌, ◌<◌, ◌≤◌, ◌^◌, ℕ, List, length, get_or, ap, sym, arith}
use Rattle.rebase_writes.specs.Rising.{last_place}
use Rattle.rebase_writes.proofs.RisingLaws.{no_run, begins_rise, runs_missed, from_first, to_last, missed_between}
use Rattle.rebase_writes.proofs.rising.ends_before.Goals as goal

pub begun-count-requires : goal.begun-count-requires
begun-count-requires c = begins_rise c.requires.rising.0 (2 ^ 24) c.args.runs.now c.requires.rising.1

pub returns-then-count-eq0 : goal.returns-then-count-eq0
returns-then-count-eq0 c is_true words cells place from to =
    runs_missed c.args.runs.now words cells place (λ i d inside k less same.
    let behind = c.begun-count.ensures.back i d (omega (arith, c.if-count-eq0.true)) inside in
    let first = from_first (get_or c.args.runs.now i d) k (c.requires.rising.1.forward i d inside).places in
    omega (arith, behind, first, same, to))

pub returns : goal.returns
returns c is_true words cells place from to =
    let count = c.begun-count.result in
    let few : count ≤ length c.args.runs.now = c.begun-count.ensures.few in
    let ends : last_place (get_or c.args.runs.now (count - 1) no_run) < place = omega (arith, c.place_of_last.ensures, c.if-from-place_of_last.false, from) in
    missed_between c.requires.rising.0 c.args.runs.now place count c.requires.rising.1 (omega (arith, c.if-count-eq0.false)) few
    ends (λ i d above inside. omega (arith, c.begun-count.ensures.back i d above inside, to)) words cells
