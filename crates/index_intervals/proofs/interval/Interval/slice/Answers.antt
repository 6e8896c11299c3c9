use Rattle.std.proofs.Common.{◌≡◌, ◌≢◌, ◌∙◌, ℤ, pos, sym, ap, arith, to_z, of_z, w64}
use Rattle.std.proofs.lemmas.Int.{ints}
use Rattle.index_intervals.proofs.SliceLemmas.{forward-at, sliced-backward, sliced-forward}
use Rattle.index_intervals.proofs.interval.Interval.slice.Goals as goal

pub returns-then-is_backward-clause-value : goal.returns-then-is_backward-clause-value
returns-then-is_backward-clause-value c =
    let s : to_z w64 (of_z w64 c.args.step) ≡ c.args.step = omega (arith, ints) in
    let f : to_z w64 (of_z w64 c.slice_start-from.result) ≡ c.slice_start-from.result = omega (arith, ints) in
    let t : to_z w64 (of_z w64 c.slice_stop-to.result) ≡ c.slice_stop-to.result = omega (arith, ints) in
    let nonzero : c.args.step ≢ pos 0 = λ e. c.if-step-eq0.false (ap (λ (z : ℤ). of_z w64 z) e) in
    let closed = (rw s at c.is_open.ensures) in
    let backward = (rw (s, f, t) at c.is_backward.ensures) in
    sliced-backward c.args.self.now c.args.start c.args.stop c.args.step nonzero (sym closed ∙ c.if-is_open.false)
    (forward-at c.args.self.now c.args.start c.args.stop c.args.step c.slice_start-from.result c.slice_stop-to.result _
    (rw s at c.slice_start-from.ensures) (rw s at c.slice_stop-to.ensures) (sym backward ∙ c.if-is_backward.true))

pub cut-requires-clause-ordered : goal.cut-requires-clause-ordered
cut-requires-clause-ordered c =
    let s : to_z w64 (of_z w64 c.args.step) ≡ c.args.step = omega (arith, ints) in
    let f : to_z w64 (of_z w64 c.slice_start-from.result) ≡ c.slice_start-from.result = omega (arith, ints) in
    let t : to_z w64 (of_z w64 c.slice_stop-to.result) ≡ c.slice_stop-to.result = omega (arith, ints) in
    let nonzero : c.args.step ≢ pos 0 = λ e. c.if-step-eq0.false (ap (λ (z : ℤ). of_z w64 z) e) in
    let closed = (rw s at c.is_open.ensures) in
    let forward = (rw (s, f, t) at c.is_backward.ensures) in
    rw s (record {
      start_index = c.requires.start;
      stop_index = c.requires.stop;
      nonzero = nonzero;
      closed = sym closed ∙ c.if-is_open.false;
      forward = forward-at c.args.self.now c.args.start c.args.stop c.args.step c.slice_start-from.result c.slice_stop-to.result _
          (rw s at c.slice_start-from.ensures) (rw s at c.slice_stop-to.ensures) (sym forward ∙ c.if-is_backward.false);
    })

pub returns-clause-value : goal.returns-clause-value
returns-clause-value c =
    let s : to_z w64 (of_z w64 c.args.step) ≡ c.args.step = omega (arith, ints) in
    let f : to_z w64 (of_z w64 c.slice_start-from.result) ≡ c.slice_start-from.result = omega (arith, ints) in
    let t : to_z w64 (of_z w64 c.slice_stop-to.result) ≡ c.slice_stop-to.result = omega (arith, ints) in
    let nonzero : c.args.step ≢ pos 0 = λ e. c.if-step-eq0.false (ap (λ (z : ℤ). of_z w64 z) e) in
    let closed = (rw s at c.is_open.ensures) in
    let forward = (rw (s, f, t) at c.is_backward.ensures) in
    (rw s at c.cut.ensures.value)
    ∙ sliced-forward c.args.self.now c.args.start c.args.stop c.args.step nonzero (sym closed ∙ c.if-is_open.false)
    (forward-at c.args.self.now c.args.start c.args.stop c.args.step c.slice_start-from.result c.slice_stop-to.result _
    (rw s at c.slice_start-from.ensures) (rw s at c.slice_stop-to.ensures) (sym forward ∙ c.if-is_backward.false))
