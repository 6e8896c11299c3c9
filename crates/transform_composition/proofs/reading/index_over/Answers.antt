use Rattle.std.proofs.Common.{◌≡◌, ◌<◌, ap, sym, subst, arith, ℤ, ◌-ℤ◌, ◌≤ℤ◌, to_z, of_z, true, unsigned_abs}
use Rattle.std.proofs.lemmas.Int.{ints}
use Rattle.std.specs.Int.{w128}
use Rattle.index_transform.specs.Bounds.{Bounds}
use Rattle.index_transform.specs.Values.{reaches_dim}
use Rattle.transform_composition.proofs.ReadLemmas.{reached_above}
use Rattle.transform_composition.proofs.reading.index_over.Goals as goal

-- the value lies above the lower bound, by less than the size
above : (c : goal.After-from) → (c.args.outer.now.lo ≤ℤ c.value.result) × (unsigned_abs (c.value.result -ℤ c.args.outer.now.lo) < c.args.size)
above c =
    reached_above c.args.outer.now c.value.result c.args.size c.if-size-eq1.false
    (subst (λ (y : ℤ). reaches_dim c.args.outer.now c.args.size y ≡ true) (sym c.value.ensures) c.requires.reached)

pub overflow_cast-result : goal.overflow_cast-result
overflow_cast-result c =
    let a = above c in
    let lo = ap (λ (b : Bounds). b.lo) c.outer.view_is in
    let f : to_z w128 (of_z w128 c.from.result) ≡ c.args.outer.now.lo = omega (arith, ints) in
    let v : to_z w128 (of_z w128 c.value.result) ≡ c.value.result = omega (arith, ints, a.0, a.1) in
    let d : to_z w128 (of_z w128 (c.value.result -ℤ c.args.outer.now.lo)) ≡ c.value.result -ℤ c.args.outer.now.lo = omega (arith, ints, a.0, a.1) in
    rw (v, f, d) (grind (arith, ints, a.0, a.1))

pub returns-clause-below : goal.returns-clause-below
returns-clause-below c =
    let a = above c in
    let lo = ap (λ (b : Bounds). b.lo) c.outer.view_is in
    let f : to_z w128 (of_z w128 c.from.result) ≡ c.args.outer.now.lo = omega (arith, ints) in
    let v : to_z w128 (of_z w128 c.value.result) ≡ c.value.result = omega (arith, ints, a.0, a.1) in
    let d : to_z w128 (of_z w128 (c.value.result -ℤ c.args.outer.now.lo)) ≡ c.value.result -ℤ c.args.outer.now.lo = omega (arith, ints, a.0, a.1) in
    rw (v, f, d) a.1
