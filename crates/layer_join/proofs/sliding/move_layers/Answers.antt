use Rattle.std.proofs.Common.{◌≡◌, ◌∙◌, ◌+◌, ◌<◌, true, length, sym, ap, subst, arith, to_z, of_z, w64}
use Rattle.std.proofs.Math.ListN.{set}
use Rattle.std.proofs.lemmas.Int.{ints}
use Rattle.index_intervals.specs.Bounds.{Bounds}
use Rattle.stack_driver.specs.Views.{look_of}
use Rattle.layer_join.specs.Slid.{along, behind, shift_to, slid_view}
use Rattle.layer_join.specs.Refusals.{can_slide}
use Rattle.layer_join.specs.Joins.{moved_layers}
use Rattle.layer_join.proofs.Joinings.{length-moved}
use Rattle.layer_join.proofs.Steps.{IsNext, Moving, moving-first, moving-next, has_at, all_done}
use Rattle.layer_join.proofs.sliding.move_layers.Goals as goal

pub loop-k-init : goal.loop-k-init
loop-k-init c =
    let b = c.next.invariant in
    let n : to_z w64 (of_z w64 c.next.inside.lo) ≡ c.next.inside.lo = omega (arith, ints, b) in
    let first : to_z w64 (of_z w64 c.next.inside.lo) ≡ (along c.args.axis _).lo = n ∙ ap (λ (d : Bounds). d.lo) (c.next.view_is ∙ c.along.ensures) in
    moving-first c.args.axis c.args.layers.now (to_z w64 (of_z w64 c.next.inside.lo)) c.index-layers-0.result c.requires.some first
    (record { above = omega (arith, ints, b, n); below = omega (arith, ints, b, n) }) c.requires.able

pub move_to-requires-clause-axis : goal.move_to-requires-clause-axis
move_to-requires-clause-axis c =
    let next = to_z w64 c.loop-k.next-bits in
    let v = c.index-layers-k.result in
    let m = moving-next c.args.axis c.args.layers.now c.loop-k.layers next c.loop-k.k v c.loop-k.invariant c.loop-k-test.true c.index-layers-k.is in
    subst (λ w. c.args.axis < length (look_of w).dims) c.index-layers-k.is
    (has_at (λ w. c.args.axis < length (look_of w).dims) c.args.layers.now c.loop-k.k v c.requires.axes c.loop-k-test.true m.old)

pub move_to-requires-clause-able : goal.move_to-requires-clause-able
move_to-requires-clause-able c =
    let next = to_z w64 c.loop-k.next-bits in
    let v = c.index-layers-k.result in
    let m = moving-next c.args.axis c.args.layers.now c.loop-k.layers next c.loop-k.k v c.loop-k.invariant c.loop-k-test.true c.index-layers-k.is in
    subst (λ w. can_slide c.args.axis (shift_to next c.args.axis w) w ≡ true) c.index-layers-k.is m.able

pub loop-k-preserved : goal.loop-k-preserved
loop-k-preserved c =
    let next = to_z w64 c.loop-k.next-bits in
    let v = c.index-layers-k.result in
    let m = moving-next c.args.axis c.args.layers.now c.loop-k.layers next c.loop-k.k v c.loop-k.invariant c.loop-k-test.true c.index-layers-k.is in
    let same : to_z w64 (of_z w64 c.in_ok-next.next) ≡ c.in_ok-next.next = omega (arith, ints) in
    let moved : c.move_to.new.v ≡ slid_view c.args.axis (shift_to next c.args.axis v) v =
    c.in_ok-next.ensures.view ∙ ap (λ w. slid_view c.args.axis (shift_to next c.args.axis w) w) (sym c.index-layers-k.is) in
    let value : c.in_ok-next.next ≡ behind next c.args.axis v = c.in_ok-next.ensures.value ∙ ap (behind next c.args.axis) (sym c.index-layers-k.is) in
    let index : IsNext (behind next c.args.axis v) = subst IsNext value (record { above = c.in_ok-next.ensures.above; below = c.in_ok-next.ensures.below }) in
    subst (λ w. Moving c.args.axis c.args.layers.now (set c.loop-k.layers c.loop-k.k w) (to_z w64 (of_z w64 c.in_ok-next.next)) (c.loop-k.k + 1)) (sym moved)
    (subst (λ n. Moving c.args.axis c.args.layers.now (set c.loop-k.layers c.loop-k.k (slid_view c.args.axis (shift_to next c.args.axis v) v)) n (c.loop-k.k + 1)) (sym (same ∙ value)) (m.more index))

pub returns : goal.returns
returns c = c.loop-k.invariant.done ∙ all_done (moved_layers c.args.axis c.args.layers.now) c.args.layers.now c.loop-k.k (length-moved c.args.axis c.args.layers.now) c.loop-k-test.false
