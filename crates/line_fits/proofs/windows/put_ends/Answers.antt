use Rattle.std.proofs.Common.{◌≡◌, ◌∙◌, ◌<◌, ◌+◌, ◌-◌, List, ℕ, length, ap, arith}
use Rattle.transcript_cut.specs.Windows.{before_first}
use Rattle.line_fits.proofs.Walls.{ends_step, no_ends}
use Rattle.line_fits.proofs.windows.put_ends.Goals as goal

pub loop-k-init : goal.loop-k-init
loop-k-init c = no_ends c.args.total c.args.said.now _

pub loop-k-preserved : goal.loop-k-preserved
loop-k-preserved c =
    let s = c.said_at.result.now in
    let j = c.loop-k.k - 1 in
    let one : c.loop-k.k ≡ j + 1 = omega arith in
    let low : j < length c.args.said.now = omega arith in
    let in_ends : j < length c.loop-k.ends = omega arith in
    ends_step c.args.total c.args.said.now c.loop-k.k j c.loop-k.end c.end_at-end.result c.before_first-end.result c.loop-k.ends s one low in_ends (c.said_at.ensures s) c.loop-k.invariant c.end_at-end.ensures
    (c.before_first-end.ensures ∙ ap (λ (ns : List ℕ). before_first c.end_at-end.result ns) c.items.ensures)

pub returns : goal.returns
returns c = record { long = omega arith; end = λ k d low. c.loop-k.invariant.each k d (omega arith) low }
