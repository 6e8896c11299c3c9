use Rattle.std.proofs.Common.{None, sym, subst, drop, ◌+◌, arith}
use Rattle.commits.specs.Late.{IsFirstLate, IsGenerationIn}
use Rattle.commits.proofs.LateLaws.{late_here, late_more}
use Rattle.commits.proofs.Steps.{drop_all, drop_at, ok_to}
use Rattle.commits.proofs.late.first_late.Goals as goal

pub loop-mark-init : goal.loop-mark-init
loop-mark-init g c = λ found is. is

pub returns-then-now-mark : goal.returns-then-now-mark
returns-then-now-mark g c =
    let log = c.args.state.now.log in
    let now = subst (λ key. IsGenerationIn log key c.generation-now.result) c.items.ensures c.generation-now.ensures.by_table in
    ok_to _ (IsFirstLate log c.args.marks.now) c.later.result
    (λ found same.
    c.loop-mark.invariant found
    (subst (λ ms. IsFirstLate log ms found) (sym (drop_at c.args.marks.now c.loop-mark.mark-index c.mark-item.result c.loop-mark-test.true c.mark-item.is))
    (late_here log c.mark-item.result (drop (c.loop-mark.mark-index + 1) c.args.marks.now) c.generation-now.result found now c.if-now-mark.true same))) c.later.ensures

pub loop-mark-preserved : goal.loop-mark-preserved
loop-mark-preserved g c = λ found is.
    let log = c.args.state.now.log in
    let now = subst (λ key. IsGenerationIn log key c.generation-now.result) c.items.ensures c.generation-now.ensures.by_table in
    c.loop-mark.invariant found
    (subst (λ ms. IsFirstLate log ms found) (sym (drop_at c.args.marks.now c.loop-mark.mark-index c.mark-item.result c.loop-mark-test.true c.mark-item.is))
    (late_more log c.mark-item.result (drop (c.loop-mark.mark-index + 1) c.args.marks.now) found (record { now = c.generation-now.result; is = now; not_later = c.if-now-mark.false }) is))

pub returns : goal.returns
returns g c = c.loop-mark.invariant None (subst (λ ms. IsFirstLate c.args.state.now.log ms None) (sym (drop_all c.args.marks.now c.loop-mark.mark-index (omega arith))) tt)
