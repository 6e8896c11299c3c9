use Rattle.std.proofs.Common.{◌≡◌, ◌∙◌, sym, ap, subst, arith, to_z, of_z, w64, true, false, ◌+◌}
use Rattle.std.proofs.lemmas.Int.{ints}
use Rattle.layer_join.specs.Slid.{behind, shift_to}
use Rattle.layer_join.specs.Refusals.{can_slide}
use Rattle.layer_join.proofs.Steps.{IsNext, Searched, searched-found, searched-next}
use Rattle.layer_join.proofs.refusing.first_stuck.Goals as goal

pub returns-then-not-can_slide-clause-value : goal.returns-then-not-can_slide-clause-value
returns-then-not-can_slide-clause-value c =
    let next = to_z w64 c.loop-k.next-bits in
    let v = c.index-layers-k.result in
    let e : to_z w64 (of_z w64 c.shift_to.result) ≡ c.shift_to.result = omega (arith, ints) in
    let s : to_z w64 (of_z w64 c.shift_to.result) ≡ shift_to next c.args.axis v = e ∙ c.shift_to.ensures in
    let able : can_slide c.args.axis (shift_to next c.args.axis v) v ≡ false = ap (λ by. can_slide c.args.axis by v) (sym s) ∙ sym c.can_slide.ensures ∙ c.if-not-can_slide.true in
    sym (searched-found c.args.axis c.args.layers.now next c.loop-k.k v c.loop-k.invariant c.loop-k-test.true c.index-layers-k.is able)

pub behind-next-requires-clause-able : goal.behind-next-requires-clause-able
behind-next-requires-clause-able c =
    let next = to_z w64 c.loop-k.next-bits in
    let v = c.index-layers-k.result in
    let e : to_z w64 (of_z w64 c.shift_to.result) ≡ c.shift_to.result = omega (arith, ints) in
    let s : to_z w64 (of_z w64 c.shift_to.result) ≡ shift_to next c.args.axis v = e ∙ c.shift_to.ensures in
    ap (λ by. can_slide c.args.axis by v) (sym s) ∙ sym c.can_slide.ensures ∙ c.if-not-can_slide.false

pub loop-k-preserved : goal.loop-k-preserved
loop-k-preserved c =
    let next = to_z w64 c.loop-k.next-bits in
    let v = c.index-layers-k.result in
    let e : to_z w64 (of_z w64 c.shift_to.result) ≡ c.shift_to.result = omega (arith, ints) in
    let s : to_z w64 (of_z w64 c.shift_to.result) ≡ shift_to next c.args.axis v = e ∙ c.shift_to.ensures in
    let able : can_slide c.args.axis (shift_to next c.args.axis v) v ≡ true = ap (λ by. can_slide c.args.axis by v) (sym s) ∙ sym c.can_slide.ensures ∙ c.if-not-can_slide.false in
    let after : to_z w64 (of_z w64 c.behind-next.result) ≡ c.behind-next.result = omega (arith, ints) in
    let value = c.behind-next.ensures.value in
    let index : IsNext (behind next c.args.axis v) = subst IsNext value (record { above = c.behind-next.ensures.above; below = c.behind-next.ensures.below }) in
    subst (λ n. Searched c.args.axis c.args.layers.now n (c.loop-k.k + 1)) (sym (after ∙ value))
    (searched-next c.args.axis c.args.layers.now next c.loop-k.k v c.loop-k.invariant c.loop-k-test.true c.index-layers-k.is able index)
