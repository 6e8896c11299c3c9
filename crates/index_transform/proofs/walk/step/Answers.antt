use Rattle.std.proofs.Common.{◌≡◌, ◌∙◌, ◌-◌, suc, ap, sym, subst, ℕ, pos, ◌+ℤ◌, ◌<ℤ◌, arith, rules, take, drop, refl, get_or, None, FitsSigned, to_z, of_z, w64}
use Rattle.std.proofs.lemmas.Int.{ints, to_z-of_z}
use Rattle.std.proofs.Math.Seq.{drop-length, take-length}
use Rattle.std.proofs.lemmas.List.{append-nil}
use Rattle.index_intervals.specs.Bounds.{Bounds}
use Rattle.index_transform.specs.Walks.{next_cell}
use Rattle.index_transform.proofs.WalkLemmas.{StandsAt-of, next_cell-risen, next_cell-begun}
use Rattle.index_transform.proofs.walk.step.Goals as goal

pub returns-then-index-k : goal.returns-then-index-k
returns-then-index-k c =
    let s : suc (c.loop-k.k - 1) ≡ c.loop-k.k = omega (arith, c.loop-k-test.true) in
    let x = get_or c.loop-k.index (c.loop-k.k - 1) (pos 0) in
    let fits : FitsSigned w64 (get_or c.loop-k.index (c.loop-k.k - 1) (pos 0)) = search rules in
    let x_is = to_z-of_z w64 (get_or c.loop-k.index (c.loop-k.k - 1) (pos 0)) fits in
    let hi = ap (λ (b : Bounds). b.hi) c.dim.view_is in
    let hi_is : to_z w64 (of_z w64 c.dim.inside.hi) ≡ c.index-dims-k.result.hi = omega (arith, ints) in
    let lt = (rw (x_is, hi_is) at c.if-index-k.true) in
    let below : get_or c.loop-k.index (c.loop-k.k - 1) (pos 0) <ℤ c.index-dims-k.result.hi = grind (arith, ints, lt) in
    let sum : to_z w64 (of_z w64 (get_or c.loop-k.index (c.loop-k.k - 1) (pos 0) +ℤ pos 1)) ≡ get_or c.loop-k.index (c.loop-k.k - 1) (pos 0) +ℤ pos 1 = omega (arith, ints) in
    let none = subst (λ (n : ℕ). next_cell (drop n c.args.dims.now) (drop n c.args.index.now) ≡ None) (sym s) c.loop-k.invariant.2 in
    rw (x_is, sum)
    (next_cell-risen c.args.dims.now c.args.index.now c.loop-k.index (c.loop-k.k - 1) c.index-dims-k.result (get_or c.loop-k.index (c.loop-k.k - 1) (pos 0))
    (StandsAt-of c.args.dims.now c.args.index.now c.loop-k.index c.loop-k.k (c.loop-k.k - 1) c.index-dims-k.result s c.loop-k.invariant.0 c.requires.rank c.loop-k.invariant.1 c.index-dims-k.is)
    (omega (arith, c.loop-k.invariant.0, s)) c.requires.rank none lt)

pub loop-k-preserved : goal.loop-k-preserved
loop-k-preserved c =
    let s : suc (c.loop-k.k - 1) ≡ c.loop-k.k = omega (arith, c.loop-k-test.true) in
    let fits : FitsSigned w64 (get_or c.loop-k.index (c.loop-k.k - 1) (pos 0)) = search rules in
    let x_is = to_z-of_z w64 (get_or c.loop-k.index (c.loop-k.k - 1) (pos 0)) fits in
    let hi = ap (λ (b : Bounds). b.hi) c.dim.view_is in
    let lo = ap (λ (b : Bounds). b.lo) c.dim.view_is in
    let hi_is : to_z w64 (of_z w64 c.dim.inside.hi) ≡ c.index-dims-k.result.hi = omega (arith, ints) in
    let lo_is : to_z w64 (of_z w64 c.dim.inside.lo) ≡ c.index-dims-k.result.lo = omega (arith, ints) in
    let ge = (rw (x_is, hi_is) at c.if-index-k.false) in
    let none = subst (λ (n : ℕ). next_cell (drop n c.args.dims.now) (drop n c.args.index.now) ≡ None) (sym s) c.loop-k.invariant.2 in
    let begun = next_cell-begun c.args.dims.now c.args.index.now c.loop-k.index (c.loop-k.k - 1) c.index-dims-k.result (get_or c.loop-k.index (c.loop-k.k - 1) (pos 0))
    (StandsAt-of c.args.dims.now c.args.index.now c.loop-k.index c.loop-k.k (c.loop-k.k - 1) c.index-dims-k.result s c.loop-k.invariant.0 c.requires.rank c.loop-k.invariant.1 c.index-dims-k.is)
    none ge in
    (omega (arith, c.loop-k.invariant.0), rw lo_is begun.0, begun.1)

pub loop-k-init : goal.loop-k-init
loop-k-init c = (
  omega arith,
  (let t = sym (ap (λ (n : ℕ). take n c.args.index.now) c.requires.rank) ∙ take-length c.args.index.now in
      rw (drop-length c.args.dims.now, t) (sym (append-nil c.args.index.now))),
  rw (drop-length c.args.dims.now) refl,
)
