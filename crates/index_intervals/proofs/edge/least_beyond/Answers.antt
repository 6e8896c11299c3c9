use Rattle.std.proofs.Common.{◌≡◌, ◌∙◌, ap, sym, ℤ, ◌-ℤ◌, neg_ℤ, pos, arith, to_z, of_z, Some, Option}
use Rattle.std.proofs.lemmas.Int.{ints}
use Rattle.std.specs.Int.{w128}
use Rattle.std.specs.Option.{option_map}
use Rattle.index_intervals.specs.Edges.{least_beyond}
use Rattle.index_intervals.proofs.edge.least_beyond.Goals as goal

pub overflow_sub-from : goal.overflow_sub-from
overflow_sub-from c =
    let i = c.requires.high c.in-Some.high c.in-Some.is in
    omega (arith, ints, i.above, i.below)

pub quotient_up-requires-clause-small : goal.quotient_up-requires-clause-small
quotient_up-requires-clause-small c =
    let i = c.requires.high c.in-Some.high c.in-Some.is in
    omega (arith, ints, i.above, i.below)

pub returns-in-Some : goal.returns-in-Some
returns-in-Some c =
    let i = c.requires.high c.in-Some.high c.in-Some.is in
    let d : to_z w128 (of_z w128 (to_z w128 (of_z w128 c.from.result) -ℤ to_z w128 (of_z w128 c.in-Some.high))) ≡ c.args.offset -ℤ c.in-Some.high = omega (arith, ints, i.above, i.below) in
    let s : to_z w128 (of_z w128 (pos 0 -ℤ to_z w128 (of_z w128 c.from-in-Some.result))) ≡ neg_ℤ c.args.stride = omega (arith, ints) in
    let q = (rw (d, s) at c.quotient_up.ensures) in
    let r : to_z w128 (of_z w128 c.quotient_up.result) ≡ c.quotient_up.result = omega (arith, ints) in
    ap Some (r ∙ q) ∙ sym (ap (λ (o : Option ℤ). option_map (least_beyond c.args.offset c.args.stride) o) c.in-Some.is)
