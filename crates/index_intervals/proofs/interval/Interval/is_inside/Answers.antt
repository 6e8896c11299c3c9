use Rattle.std.proofs.Common.{◌≡◌, ◌∙◌, ℕ, ap, sym, ◌+ℤ◌, ◌-ℤ◌, ℤ, pos, arith, to_z, of_z, w64}
use Rattle.std.proofs.lemmas.Int.{ints}
use Rattle.index_intervals.proofs.SlicedLemmas.{is_inside-far, is_inside-up, is_inside-empty}
use Rattle.index_intervals.proofs.interval.Interval.is_inside.Goals as goal
use Rattle.index_intervals.proofs.interval.Interval.is_inside.Goals.{else-step-lt0-via-then-step-lt0+else-from-to, else-step-lt0-via-else-step-lt0}

pub returns-then-from-to : goal.returns-then-from-to
returns-then-from-to c =
    let s : to_z w64 (of_z w64 c.args.step) ≡ c.args.step = omega (arith, ints) in
    let f : to_z w64 (of_z w64 c.args.from) ≡ c.args.from = omega (arith, ints) in
    let t : to_z w64 (of_z w64 (to_z w64 (of_z w64 c.args.to) +ℤ pos 1)) ≡ c.args.to +ℤ pos 1 = omega (arith, ints) in
    let e = (rw (t, f) at c.covers.ensures) in
    let n = (rw s at c.if-step-lt0.true) in
    e ∙ sym (is_inside-far c.args.self.now c.args.step c.args.from c.args.to n (λ (q : c.args.from ≡ c.args.to). c.if-from-to.true (ap (λ (z : ℤ). of_z w64 z) q)))

pub returns-else-step-lt0 : goal.returns-else-step-lt0
returns-else-step-lt0 c =
    let s : to_z w64 (of_z w64 c.args.step) ≡ c.args.step = omega (arith, ints) in
    let f : to_z w64 (of_z w64 c.args.from) ≡ c.args.from = omega (arith, ints) in
    let t : to_z w64 (of_z w64 (to_z w64 (of_z w64 c.args.to) -ℤ pos 1)) ≡ c.args.to -ℤ pos 1 = omega (arith, ints) in
    let o : to_z w64 (of_z w64 c.args.to) ≡ c.args.to = omega (arith, ints) in
    let e = (rw (f, t) at c.covers-else-step-lt0.ensures) in
    elim c.else-step-lt0.branch [
      | else-step-lt0-via-then-step-lt0+else-from-to w ↦ e ∙ sym (is_inside-empty c.args.self.now c.args.step c.args.from c.args.to (sym f ∙ ap (λ (n : ℕ). to_z w64 n) w.if-from-to.false ∙ o))
      | else-step-lt0-via-else-step-lt0 w ↦ e ∙ sym (is_inside-up c.args.self.now c.args.step c.args.from c.args.to (rw s at w.if-step-lt0.false))
    ]
