use Rattle.std.proofs.Common.{◌≡◌, to_z, of_z, arith}
use Rattle.std.proofs.lemmas.Int.{ints}
use Rattle.std.specs.Int.{w128}
use Rattle.index_transform.proofs.Laws.{product_small}
use Rattle.layer_join.proofs.sliding.slid_offset.Goals as goal

pub overflow_sub-result : goal.overflow_sub-result
overflow_sub-result c =
    let s : to_z w128 (of_z w128 c.from-2.result) ≡ c.args.stride = omega (arith, ints) in
    let x : to_z w128 (of_z w128 c.from-3.result) ≡ c.args.by = omega (arith, ints) in
    let p = product_small c.args.stride c.args.by c.ranges.stride c.ranges.by in
    rw (s, x) (omega (arith, ints))

pub returns : goal.returns
returns c =
    let s : to_z w128 (of_z w128 c.from-2.result) ≡ c.args.stride = omega (arith, ints) in
    let x : to_z w128 (of_z w128 c.from-3.result) ≡ c.args.by = omega (arith, ints) in
    let p = product_small c.args.stride c.args.by c.ranges.stride c.ranges.by in
    rw (s, x) (omega (arith, ints))
