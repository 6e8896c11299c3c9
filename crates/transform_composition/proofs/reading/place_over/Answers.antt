use Rattle.std.proofs.Common.{◌≡◌, ◌<◌, ◌+◌, ◌*◌, ◌==◌, ◌||◌, ◌∙◌, ap, sym, subst, arith, ℤ, pos, map, drop, get_or, length, true}
use Rattle.std.proofs.lemmas.List.{length-map}
use Rattle.index_transform.specs.Values.{entry_place, entry_index, map_value, has_value, reaches_dim}
use Rattle.index_transform.proofs.Laws.{IsAlong, IsAlong-next, IsAlong-end, IsAlong-most, IsAlong-product, entry_place-below, reaches-lengths, all-zip-at, get_or-inside}
use Rattle.transform_composition.proofs.ReadLemmas.{get_or-mapped, IsAlong-reached, readable}
use Rattle.transform_composition.proofs.reading.place_over.Goals as goal

-- there is a map for each size
below_maps : (c : goal.After-index-maps-j) → c.loop-j.j < length c.args.maps.now
below_maps c =
    let l = reaches-lengths c.args.outers.now c.args.sizes.now (map (map_value c.args.dims.now c.args.cell.now) c.args.maps.now) (readable c.args.outers.now c.args.sizes.now c.args.dims.now c.args.maps.now c.args.cell.now c.requires.readable).1 in
    let m : length (map (map_value c.args.dims.now c.args.cell.now) c.args.maps.now) ≡ length c.args.maps.now = length-map c.args.maps.now (map_value c.args.dims.now c.args.cell.now) in
    omega (arith, l.1, m, c.loop-j-test.true)

value_is : (c : goal.After-index-maps-j) → get_or (map (map_value c.args.dims.now c.args.cell.now) c.args.maps.now) c.loop-j.j (pos 0) ≡ map_value c.args.dims.now c.args.cell.now c.index-maps-j.result
value_is c = get_or-mapped (map_value c.args.dims.now c.args.cell.now) c.args.maps.now c.loop-j.j c.index-maps-j.result (below_maps c) c.index-maps-j.is

pub index_over-requires-clause-known : goal.index_over-requires-clause-known
index_over-requires-clause-known c =
    all-zip-at (λ p. p.0 == 1 || has_value c.args.dims.now c.args.cell.now p.1) c.args.sizes.now c.args.maps.now c.loop-j.j (get_or c.args.sizes.now c.loop-j.j 0) c.index-maps-j.result
    (readable c.args.outers.now c.args.sizes.now c.args.dims.now c.args.maps.now c.args.cell.now c.requires.readable).0 c.loop-j-test.true (below_maps c) (get_or-inside c.args.sizes.now c.loop-j.j 0 (get_or c.args.sizes.now c.loop-j.j 0) c.loop-j-test.true) c.index-maps-j.is

pub index_over-requires-clause-reached : goal.index_over-requires-clause-reached
index_over-requires-clause-reached c =
    subst (λ (y : ℤ). reaches_dim c.index-outers-j.result (get_or c.args.sizes.now c.loop-j.j 0) y ≡ true) (value_is c)
    (IsAlong-reached c.args.outers.now c.args.sizes.now (map (map_value c.args.dims.now c.args.cell.now) c.args.maps.now) c.loop-j.j c.loop-j.place _ c.index-outers-j.result c.loop-j-test.true c.loop-j.invariant c.index-outers-j.is)

below_maps' : (c : goal.After-index_over) → c.loop-j.j < length c.args.maps.now
below_maps' c =
    let l = reaches-lengths c.args.outers.now c.args.sizes.now (map (map_value c.args.dims.now c.args.cell.now) c.args.maps.now) (readable c.args.outers.now c.args.sizes.now c.args.dims.now c.args.maps.now c.args.cell.now c.requires.readable).1 in
    let m : length (map (map_value c.args.dims.now c.args.cell.now) c.args.maps.now) ≡ length c.args.maps.now = length-map c.args.maps.now (map_value c.args.dims.now c.args.cell.now) in
    omega (arith, l.1, m, c.loop-j-test.true)

value_is' : (c : goal.After-index_over) → get_or (map (map_value c.args.dims.now c.args.cell.now) c.args.maps.now) c.loop-j.j (pos 0) ≡ map_value c.args.dims.now c.args.cell.now c.index-maps-j.result
value_is' c = get_or-mapped (map_value c.args.dims.now c.args.cell.now) c.args.maps.now c.loop-j.j c.index-maps-j.result (below_maps' c) c.index-maps-j.is

-- the place behind the next dimension
next : (c : goal.After-index_over) → IsAlong (drop (c.loop-j.j + 1) c.args.outers.now) (drop (c.loop-j.j + 1) c.args.sizes.now) (drop (c.loop-j.j + 1) (map (map_value c.args.dims.now c.args.cell.now) c.args.maps.now)) (c.loop-j.place * get_or c.args.sizes.now c.loop-j.j 0 + c.index_over.result) (entry_place c.args.outers.now c.args.sizes.now (map (map_value c.args.dims.now c.args.cell.now) c.args.maps.now))
next c =
    let i = c.index_over.ensures.value ∙ ap (λ (y : ℤ). entry_index c.index-outers-j.result (get_or c.args.sizes.now c.loop-j.j 0) y) (sym (value_is' c)) in
    rw i (IsAlong-next c.args.outers.now c.args.sizes.now (map (map_value c.args.dims.now c.args.cell.now) c.args.maps.now) c.loop-j.j c.loop-j.place _ c.index-outers-j.result c.loop-j-test.true c.loop-j.invariant c.index-outers-j.is)

pub loop-j-preserved : goal.loop-j-preserved
loop-j-preserved c = next c

pub overflow_mul-place : goal.overflow_mul-place
overflow_mul-place c =
    let m = IsAlong-product c.args.outers.now c.args.sizes.now (map (map_value c.args.dims.now c.args.cell.now) c.args.maps.now) c.loop-j.j c.loop-j.place _ c.loop-j-test.true c.loop-j.invariant in
    let b = entry_place-below c.args.outers.now c.args.sizes.now (map (map_value c.args.dims.now c.args.cell.now) c.args.maps.now) (readable c.args.outers.now c.args.sizes.now c.args.dims.now c.args.maps.now c.args.cell.now c.requires.readable).1 in
    omega (arith, m, b, c.requires.small)

pub overflow_add-place : goal.overflow_add-place
overflow_add-place c =
    let m = IsAlong-most _ _ _ _ _ (next c) in
    let b = entry_place-below c.args.outers.now c.args.sizes.now (map (map_value c.args.dims.now c.args.cell.now) c.args.maps.now) (readable c.args.outers.now c.args.sizes.now c.args.dims.now c.args.maps.now c.args.cell.now c.requires.readable).1 in
    omega (arith, m, b, c.requires.small)

ended : (c : goal.After-loop-j) → c.loop-j.place ≡ entry_place c.args.outers.now c.args.sizes.now (map (map_value c.args.dims.now c.args.cell.now) c.args.maps.now)
ended c = IsAlong-end c.args.outers.now c.args.sizes.now (map (map_value c.args.dims.now c.args.cell.now) c.args.maps.now) c.loop-j.j c.loop-j.place _ (omega (arith, c.loop-j-test.false, c.loop-j.auto.j-end)) c.loop-j.invariant

pub returns-clause-value : goal.returns-clause-value
returns-clause-value c = ended c

pub returns-clause-below : goal.returns-clause-below
returns-clause-below c = rw (ended c) (entry_place-below c.args.outers.now c.args.sizes.now (map (map_value c.args.dims.now c.args.cell.now) c.args.maps.now) (readable c.args.outers.now c.args.sizes.now c.args.dims.now c.args.maps.now c.args.cell.now c.requires.readable).1)
