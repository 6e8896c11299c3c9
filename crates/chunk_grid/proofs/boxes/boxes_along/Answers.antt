use Rattle.std.proofs.Common.{◌≡◌, ◌∙◌, ◌++◌, ◌∷◌, [], ℕ, ℤ, List, take, take_all, get_or, sym, ap, subst, arith}
use Rattle.index_transform.specs.Maps.{is_map}
use Rattle.index_transform.specs.Values.{map_value}
use Rattle.chunk_grid.specs.declared.boxes.Boxed.{Boxed}
use Rattle.chunk_grid.specs.Boxes.{AreBoxes, key_along, is_regular}
use Rattle.chunk_grid.specs.BoxSteps.{IsPlaceAlong}
use Rattle.chunk_grid.proofs.BoxCells.{some-filled}
use Rattle.chunk_grid.proofs.BoxSplits.{same-at}
use Rattle.chunk_grid.proofs.BoxLaws.{AreBoxesTo, boxes-begun, boxes-more, boxes-parted, can-split, all-at, holds-at}
use Rattle.chunk_grid.proofs.boxes.boxes_along.Goals as goal

pub loop-j-init : goal.loop-j-init
loop-j-init c =
    let dims = c.args.dims.now in
    let first : Boxed = record { chunk = c.wrap.result; dims = c.wrap-2.result } in
    let chunk : c.wrap.result ≡ [] = c.wrap.ensures ∙ c.new.ensures.items in
    let copy : c.wrap-2.result ≡ dims = c.wrap-2.ensures ∙ c.in_ok-copied.ensures.value in
    let begun = boxes-begun dims c.args.maps.now c.args.chunk.now first (some-filled dims c.in_ok-copied.ensures.ordered c.requires.some) (λ i. record { chunk = chunk i; dims = copy i }) in
    subst (λ (bs : List Boxed). AreBoxesTo dims c.args.maps.now c.args.chunk.now 0 bs) (sym (c.in_ok-push.ensures.items ∙ ap (λ (bs : List Boxed). bs ++ first ∷ []) c.new-boxes.ensures.items)) begun

pub parted-requires-clause-split : goal.parted-requires-clause-split
parted-requires-clause-split c =
    let dims = c.args.dims.now in
    let maps = c.args.maps.now in
    let m = c.index-maps-j.result in
    let lt = c.loop-j-test.true in
    let regular = all-at is_regular maps c.loop-j.j m c.requires.regular lt c.index-maps-j.is in
    let from = all-at (is_map dims) maps c.loop-j.j m c.requires.from lt c.index-maps-j.is in
    can-split dims m c.loop-j.boxes.items c.requires.finite regular from
    (λ cell is. holds-at (λ n. IsPlaceAlong (map_value [] cell n)) maps c.loop-j.j m (c.requires.values cell is) lt c.index-maps-j.is)
    c.loop-j.invariant.within

pub loop-j-preserved : goal.loop-j-preserved
loop-j-preserved c =
    let dims = c.args.dims.now in
    let maps = c.args.maps.now in
    let chunk = c.args.chunk.now in
    let m = c.index-maps-j.result in
    let n = get_or chunk c.loop-j.j 0 in
    boxes-more dims maps chunk c.loop-j.j c.loop-j.boxes.items c.in_ok-boxes.boxes.items m n c.requires.same c.loop-j-test.true c.index-maps-j.is (same-at chunk c.loop-j.j 0 n (omega (arith, c.loop-j-test.true, c.requires.same))) c.loop-j.invariant
    c.in_ok-boxes.ensures

pub returns-clause-boxes : goal.returns-clause-boxes
returns-clause-boxes c =
    let dims = c.args.dims.now in
    let maps = c.args.maps.now in
    let chunk = c.args.chunk.now in
    let ms = take_all c.loop-j.j maps (omega arith) in
    let ns = take_all c.loop-j.j chunk (omega (arith, c.requires.same)) in
    subst (λ (k : List ℤ → List ℕ). AreBoxes k dims c.loop-j.boxes.items) (λ i. key_along (ms i) (ns i))
    (boxes-parted (key_along (take c.loop-j.j maps) (take c.loop-j.j chunk)) dims c.loop-j.boxes.items c.loop-j.invariant.parted c.loop-j.invariant.within)
