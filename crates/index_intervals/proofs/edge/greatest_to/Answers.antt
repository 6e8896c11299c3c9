use Rattle.std.proofs.Common.{◌≡◌, ◌∙◌, ap, sym, ℤ, ◌-ℤ◌, arith, to_z, of_z, Some, Option}
use Rattle.std.proofs.lemmas.Int.{ints}
use Rattle.std.specs.Int.{w128}
use Rattle.std.specs.Option.{option_map}
use Rattle.index_intervals.specs.Edges.{greatest_to}
use Rattle.index_intervals.proofs.edge.greatest_to.Goals as goal

pub overflow_sub-high : goal.overflow_sub-high
overflow_sub-high c =
    let i = c.requires.high c.in-Some.high c.in-Some.is in
    omega (arith, ints, i.above, i.below)

pub quotient_down-requires-clause-small : goal.quotient_down-requires-clause-small
quotient_down-requires-clause-small c =
    let i = c.requires.high c.in-Some.high c.in-Some.is in
    omega (arith, ints, i.above, i.below)

pub returns-in-Some : goal.returns-in-Some
returns-in-Some c =
    let i = c.requires.high c.in-Some.high c.in-Some.is in
    let d : to_z w128 (of_z w128 (to_z w128 (of_z w128 c.in-Some.high) -ℤ to_z w128 (of_z w128 c.from.result))) ≡ c.in-Some.high -ℤ c.args.offset = omega (arith, ints, i.above, i.below) in
    let s : to_z w128 (of_z w128 c.into.result) ≡ c.args.stride = omega (arith, ints) in
    let q = (rw (d, s) at c.quotient_down.ensures) in
    let r : to_z w128 (of_z w128 c.quotient_down.result) ≡ c.quotient_down.result = omega (arith, ints) in
    ap Some (r ∙ q) ∙ sym (ap (λ (o : Option ℤ). option_map (greatest_to c.args.offset c.args.stride) o) c.in-Some.is)
