use Rattle.std.proofs.Common.{◌≡◌, ◌<◌, length, true, false, refl, subst, sym, arith}
use Rattle.std.proofs.lemmas.List.{take_all}
use Rattle.history.specs.Writes.{puts_of}
use Rattle.event_replay.specs.Sweeps.{IsOpIn}
use Rattle.event_replay.proofs.FollowLaws.{one_of}
use Rattle.line_fits.specs.StoredPuts.{PutsStored}
use Rattle.line_fits.proofs.StoredPuts.{no_puts, none_more, one_puts}
use Rattle.line_fits.proofs.failing.ops_put_stored.Goals as goal

pub loop-i-init : goal.loop-i-init
loop-i-init c = λ events before front stored each. no_puts before

pub op_puts_stored-requires : goal.op_puts_stored-requires
op_puts_stored-requires c =
    let low : c.loop-i.i < length c.args.ops.now = omega arith in
    (c.requires.0, c.requires.1, c.requires.2, one_of (IsOpIn c.requires.0) c.args.ops.now c.loop-i.i c.index-ops-i.result c.requires.3 low c.index-ops-i.is)

pub loop-i-preserved : goal.loop-i-preserved
loop-i-preserved c = λ events before front stored each.
    let low : c.loop-i.i < length c.args.ops.now = omega arith in
    let tells = c.in_ok-op_puts_stored.ensures events before front stored (one_of (IsOpIn events) c.args.ops.now c.loop-i.i c.index-ops-i.result each low c.index-ops-i.is) in
    none_more before c.args.ops.now c.loop-i.i c.index-ops-i.result low c.index-ops-i.is (c.loop-i.invariant events before front stored each)
    (λ puts. let so = tells.1 puts in let isnt = c.if-branch.false in cc)

pub returns-then-branch : goal.returns-then-branch
returns-then-branch c = λ events before front stored each.
    let low : c.loop-i.i < length c.args.ops.now = omega arith in
    let tells = c.in_ok-op_puts_stored.ensures events before front stored (one_of (IsOpIn events) c.args.ops.now c.loop-i.i c.index-ops-i.result each low c.index-ops-i.is) in
    (λ so. one_puts before c.args.ops.now c.loop-i.i c.index-ops-i.result low c.index-ops-i.is (tells.0 c.if-branch.true), λ puts. refl)

pub returns : goal.returns
returns c = λ events before front stored each. (
  λ so. absurd (let clash : false ≡ true = so in cc),
  λ puts. absurd (c.loop-i.invariant events before front stored each (subst (λ ops. PutsStored before (puts_of ops)) (sym (take_all c.loop-i.i c.args.ops.now (omega arith))) puts)),
)
