use Rattle.std.proofs.Common.{◌≡◌, ◌∙◌, ◌<◌, ◌+◌, suc, true, sym, ap, arith, List, ℤ, length, map, get_or, to_z, of_z, w64}
use Rattle.std.proofs.lemmas.Int.{ints}
use Rattle.std.proofs.lemmas.List.{get_or-map, length-map}
use Rattle.std.proofs.Math.ListN.{set}
use Rattle.std.specs.Int.{w128}
use Rattle.index_transform.specs.Values.{map_value, is_word}
use Rattle.index_transform.proofs.ListLemmas.{set-more, all-at}
use Rattle.index_transform.proofs.value.values_into.Goals as goal

-- the number at a place is that map's
number_at : (c : goal.After-value-number) → c.value-number.result ≡ get_or (map (map_value c.args.dims.now c.args.index.now) c.args.maps.now) c.loop-j.j c.value-number.result
number_at c =
    c.value-number.ensures ∙ ap (map_value c.args.dims.now c.args.index.now) c.index-maps-j.is
    ∙ sym (get_or-map (map_value c.args.dims.now c.args.index.now) c.args.maps.now c.loop-j.j c.index-maps-j.result c.value-number.result c.loop-j-test.true)

long : (c : goal.After-value-number) → c.loop-j.j < length (map (map_value c.args.dims.now c.args.index.now) c.args.maps.now)
long c = omega (arith, length-map c.args.maps.now (map_value c.args.dims.now c.args.index.now), c.loop-j-test.true)

word : (c : goal.After-value-number) → is_word c.value-number.result ≡ true
word c = all-at is_word (map (map_value c.args.dims.now c.args.index.now) c.args.maps.now) c.loop-j.j c.value-number.result c.requires.fits (long c) (number_at c)

cast : (x : ℤ) → is_word x ≡ true → to_z w64 (of_z w64 (to_z w128 (of_z w128 x))) ≡ x
cast x e = grind (arith, ints)

pub overflow_cast-out : goal.overflow_cast-out
overflow_cast-out c = let w = word c in grind (arith, ints)

pub loop-j-preserved : goal.loop-j-preserved
loop-j-preserved c =
    let f = map_value c.args.dims.now c.args.index.now in
    let n = c.value-number.result in
    let same : to_z w64 (of_z w64 (to_z w128 (of_z w128 n))) ≡ n = cast n (word c) in
    let one : c.loop-j.j + 1 ≡ suc c.loop-j.j = omega arith in
    let olds = c.requires.room in
    let rank : length (map f c.args.maps.now) ≡ length c.args.out.now = length-map c.args.maps.now f ∙ sym olds in
    let step = set-more (map f c.args.maps.now) c.args.out.now c.loop-j.j n rank (omega (arith, c.loop-j-test.true, olds)) (number_at c) in
    rw one
    (ap (λ (x : ℤ). set c.loop-j.out c.loop-j.j x) same
    ∙ ap (λ (xs : List ℤ). set xs c.loop-j.j n) c.loop-j.invariant
    ∙ step)
