use Rattle.std.proofs.Common.{◌≡◌, ◌∙◌, ◌+◌, ◌-◌, ◌*◌, ◌<◌, ap, arith, length, map, drop, sym}
use Rattle.cells.specs.Places.{cell_count}
use Rattle.index_transform.specs.Maps.{size_of}
use Rattle.chunk_grid.proofs.StepLaws.{last-few}
use Rattle.chunk_grid.proofs.boxing.view_steps.Goals as goal

pub overflow_mul-width : goal.overflow_mul-width
overflow_mul-width c =
    let h : c.loop-d.d - 1 < length c.args.dims.now = omega (arith, c.loop-d-test.true, c.loop-d.invariant.0) in
    let one : c.loop-d.d - 1 + 1 ≡ c.loop-d.d = omega (arith, c.loop-d-test.true) in
    let r = last-few c.args.dims.now (c.loop-d.d - 1) c.index-dims-d.result h c.index-dims-d.is c.requires.some in
    let w = c.loop-d.invariant.3 ∙ ap (λ k. cell_count (map size_of (drop k c.args.dims.now))) (sym one) in
    let s = ap (λ n. c.loop-d.width * n) c.size_of-width.ensures ∙ ap (λ n. n * size_of c.index-dims-d.result) w in
    omega (arith, s, r, c.requires.few)
