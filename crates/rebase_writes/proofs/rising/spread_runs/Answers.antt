-- One run more is taken to its places.
use Rattle.std.proofs.Common.{◌≡◌, ◌+◌, ◌-◌, ◌<◌, ◌∙◌, ℕ, None, refl, length, get_or, replicate, sym, subst, arith}
use Rattle.cells.specs.Runs.{IsRunInside}
use Rattle.rebase_writes.specs.Marks.{marks_of}
use Rattle.rebase_writes.specs.Rising.{runs_staged}
use Rattle.rebase_writes.specs.Staged.{staged_cells}
use Rattle.rebase_writes.proofs.RisingLaws.{no_run}
use Rattle.rebase_writes.proofs.SpreadLaws.{IsSpreadFrom, spread_more, spread_all}
use Rattle.rebase_writes.proofs.rising.spread_runs.Goals as goal

pub loop-left-init : goal.loop-left-init
loop-left-init c = record { few = omega arith; spread = record { before = λ place all. (c.requires.none place, refl); behind = λ place j d above below begins. absurd (omega (arith, above, below)) } }

pub spread_run-requires-clause-forward : goal.spread_run-requires-clause-forward
spread_run-requires-clause-forward c = c.requires.rising.forward (c.loop-left.left - 1) no_run (omega (arith, c.loop-left.invariant.few))

pub spread_run-requires-clause-ahead : goal.spread_run-requires-clause-ahead
spread_run-requires-clause-ahead c = c.requires.rising.ahead (c.loop-left.left - 1) no_run (omega (arith, c.loop-left.invariant.few))

pub spread_run-requires-clause-inside : goal.spread_run-requires-clause-inside
spread_run-requires-clause-inside c =
    let k = c.loop-left.left - 1 in
    let size : length c.args.words.now ≡ length c.loop-left.words = omega arith in
    subst (λ n. IsRunInside (get_or c.args.runs.now k no_run) n n) size (c.requires.rising.inside k no_run (omega (arith, c.loop-left.invariant.few)))

pub spread_run-requires-clause-room : goal.spread_run-requires-clause-room
spread_run-requires-clause-room c = omega (arith, c.requires.room)

pub loop-left-preserved : goal.loop-left-preserved
loop-left-preserved c =
    let k = c.loop-left.left - 1 in
    let runs = c.args.runs.now in
    let words = c.args.words.now in
    let on : c.loop-left.left ≡ k + 1 = omega arith in
    record {
      few = omega (arith, c.loop-left.invariant.few);
      spread = spread_more runs (length words) k words c.loop-left.marks c.loop-left.words c.spread_run.new.marks c.spread_run.new.words refl c.requires.small c.requires.rising
          (omega (arith, c.loop-left.invariant.few)) (subst (λ m. IsSpreadFrom runs (length words) m words c.loop-left.marks c.loop-left.words) on c.loop-left.invariant.spread) c.spread_run.ensures;
    }

pub returns : goal.returns
returns c count full =
    let runs = c.args.runs.now in
    let words = c.args.words.now in
    let zero_left : c.loop-left.left ≡ 0 = omega arith in
    let all = spread_all runs (length words) words c.loop-left.marks c.loop-left.words (omega arith) c.requires.rising
    (subst (λ m. IsSpreadFrom runs (length words) m words c.loop-left.marks c.loop-left.words) zero_left c.loop-left.invariant.spread) in
    subst (λ n. staged_cells (marks_of n c.loop-left.marks) c.loop-left.words ≡ runs_staged runs words (replicate n None)) full all
