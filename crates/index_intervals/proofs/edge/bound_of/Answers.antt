use Rattle.std.proofs.Common.{◌≡◌, ◌∙◌, inl, ap, sym, subst, arith, ℤ, Option, to_z, of_z, w64, unwrap_or}
use Rattle.std.proofs.lemmas.Int.{ints}
use Rattle.std.specs.Int.{w128}
use Rattle.index_intervals.specs.Bounds.{IsIndex}
use Rattle.index_intervals.proofs.edge.bound_of.Goals as goal

pub overflow_cast-result : goal.overflow_cast-result
overflow_cast-result c =
    let i = c.requires c.in-Some.x c.in-Some.is in
    omega (arith, ints, i.above, i.below)

pub returns-in-Some-clause-value : goal.returns-in-Some-clause-value
returns-in-Some-clause-value c =
    let i = c.requires c.in-Some.x c.in-Some.is in
    let x : to_z w64 (of_z w64 (to_z w128 (of_z w128 c.in-Some.x))) ≡ c.in-Some.x = omega (arith, ints, i.above, i.below) in
    x ∙ sym (ap (λ (o : Option ℤ). unwrap_or o c.args.missing) c.in-Some.is)

pub returns-in-Some-clause-index : goal.returns-in-Some-clause-index
returns-in-Some-clause-index c =
    let i = c.requires c.in-Some.x c.in-Some.is in
    let x : to_z w64 (of_z w64 (to_z w128 (of_z w128 c.in-Some.x))) ≡ c.in-Some.x = omega (arith, ints, i.above, i.below) in
    inl (subst IsIndex (sym x) i)
