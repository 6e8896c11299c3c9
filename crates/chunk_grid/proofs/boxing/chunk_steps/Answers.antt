use Rattle.std.proofs.Common.{◌≡◌, ◌∙◌, ◌+◌, ◌-◌, ◌*◌, ◌^◌, ◌<◌, ◌≤◌, ℕ, ℤ, pos, List, ap, arith, length, drop, replicate, get_or, sym, subst, unsigned_abs, rules}
use Rattle.std.specs.List.{AllByRecursion}
use Rattle.std.proofs.lemmas.List.{drop_all}
use Rattle.cells.specs.Places.{cell_count}
use Rattle.index_transform.specs.declared.map.OutMap.{OutMap}
use Rattle.chunk_grid.specs.Boxes.{added_by, chunk_steps}
use Rattle.chunk_grid.proofs.StepLaws.{all_within, zeros-small, last-cells, cells-more, steps-more}
use Rattle.chunk_grid.proofs.boxing.chunk_steps.Goals as goal

pub loop-j-init : goal.loop-j-init
loop-j-init c =
    let n = length c.args.maps.now in
    let a = drop_all n c.args.maps.now (omega arith) in
    let b = drop_all n c.args.chunk.now (let q = c.requires.same in omega (arith, q)) in
    let zeros : c.in_ok-steps.steps.items ≡ replicate c.args.rank (pos 0) = search rules in (
      omega arith,
      zeros ∙ sym (ap (λ (ms : List OutMap). chunk_steps c.args.rank ms (drop n c.args.chunk.now)) a),
      subst (AllByRecursion (λ (x : ℤ). unsigned_abs x ≤ (n - n) * 2 ^ 87)) (sym zeros) (zeros-small c.args.rank ((n - n) * 2 ^ 87)),
      sym (ap cell_count b),
    )

pub added_by-steps-requires-clause-small : goal.added_by-steps-requires-clause-small
added_by-steps-requires-clause-small c =
    all_within c.loop-j.steps.items ((length c.args.maps.now - c.loop-j.j) * 2 ^ 87) (32 * 2 ^ 87) (let f = c.requires.few in omega (arith, f)) c.loop-j.invariant.2

pub added_by-steps-requires-clause-width : goal.added_by-steps-requires-clause-width
added_by-steps-requires-clause-width c =
    let l = last-cells c.args.chunk.now c.loop-j.j c.requires.positive in
    let w = c.loop-j.invariant.3 in
    omega (arith, l, w, c.requires.small)

pub overflow_mul-width : goal.overflow_mul-width
overflow_mul-width c =
    let some = c.loop-j-test.true in
    let most = c.loop-j.invariant.0 in
    let h : c.loop-j.j - 1 < length c.args.chunk.now = omega (arith, some, most, c.requires.same) in
    let one : c.loop-j.j - 1 + 1 ≡ c.loop-j.j = omega (arith, some) in
    let m = cells-more c.args.chunk.now (c.loop-j.j - 1) h in
    let w = c.loop-j.invariant.3 ∙ ap (λ k. cell_count (drop k c.args.chunk.now)) (sym one) in
    let s = ap (λ n. n * get_or c.args.chunk.now (c.loop-j.j - 1) 0) w ∙ m in
    let l = last-cells c.args.chunk.now (c.loop-j.j - 1) c.requires.positive in
    omega (arith, s, l, c.requires.small)

pub loop-j-preserved : goal.loop-j-preserved
loop-j-preserved c =
    let some = c.loop-j-test.true in
    let most = c.loop-j.invariant.0 in
    let h : c.loop-j.j - 1 < length c.args.maps.now = omega (arith, some, most) in
    let hc : c.loop-j.j - 1 < length c.args.chunk.now = omega (arith, some, most, c.requires.same) in
    let one : c.loop-j.j - 1 + 1 ≡ c.loop-j.j = omega (arith, some) in
    let rank = c.args.rank in
    let steps = c.added_by-steps.ensures.value
    ∙ ap (λ (w : ℕ). added_by c.index-maps-j.result w c.loop-j.steps.items) (c.loop-j.invariant.3 ∙ ap (λ k. cell_count (drop k c.args.chunk.now)) (sym one))
    ∙ ap (added_by c.index-maps-j.result (cell_count (drop (c.loop-j.j - 1 + 1) c.args.chunk.now))) (c.loop-j.invariant.1 ∙ ap (λ k. chunk_steps rank (drop k c.args.maps.now) (drop k c.args.chunk.now)) (sym one))
    ∙ steps-more rank c.args.maps.now c.args.chunk.now (c.loop-j.j - 1) c.index-maps-j.result h c.requires.same c.index-maps-j.is in
    let wide = (length c.args.maps.now - c.loop-j.j) * 2 ^ 87 in
    let more : wide + 2 ^ 87 ≤ (length c.args.maps.now - (c.loop-j.j - 1)) * 2 ^ 87 = omega (arith, some, most) in
    let w = c.loop-j.invariant.3 ∙ ap (λ k. cell_count (drop k c.args.chunk.now)) (sym one) in (
      omega (arith, most),
      steps,
      all_within c.added_by-steps.result.items (wide + 2 ^ 87) ((length c.args.maps.now - (c.loop-j.j - 1)) * 2 ^ 87) more (c.added_by-steps.ensures.small wide c.loop-j.invariant.2),
      ap (λ n. n * get_or c.args.chunk.now (c.loop-j.j - 1) 0) w ∙ cells-more c.args.chunk.now (c.loop-j.j - 1) hc,
    )
