use Rattle.std.proofs.Common.{◌≡◌, ◌∙◌, ◌+◌, ◌*◌, ◌<◌, ℕ, List, length, map, drop, get_or, ap, arith, unsigned_abs, ◌-ℤ◌}
use Rattle.std.proofs.lemmas.List.{length-map}
use Rattle.cells.specs.Places.{cell_count}
use Rattle.index_intervals.specs.Bounds.{Bounds}
use Rattle.index_transform.specs.Maps.{size_of}
use Rattle.index_transform.specs.Walks.{lows}
use Rattle.chunk_grid.specs.Boxes.{IsBoxIn, cell_place, view_steps}
use Rattle.chunk_grid.proofs.BoxLoops.{box-reach}
use Rattle.chunk_grid.proofs.StepLaws.{view-at, length-view_steps, length-box, box-at, place-more}
use Rattle.chunk_grid.proofs.boxing.first_place.Goals as goal

-- the first cell's place lies below the number of cells
first-small : (dims box : List Bounds) → IsBoxIn dims box → cell_place dims (lows box) < cell_count (map size_of dims)
first-small dims box h = let r = box-reach dims box (lows box) (length-map box (λ dim. dim.lo)) h in omega (arith, r)

-- one dimension more
more : (dims box : List Bounds) (views : List ℕ) (d place off : ℕ) (dim b : Bounds) → views ≡ view_steps dims → length box ≡ length dims → d < length dims → dim ≡ get_or dims d dim → b ≡ get_or box d b
    → off ≡ unsigned_abs (b.lo -ℤ dim.lo) → place + cell_place (drop d dims) (lows (drop d box)) ≡ cell_place dims (lows box)
    → (place + get_or views d 0 * off) + cell_place (drop (d + 1) dims) (lows (drop (d + 1) box)) ≡ cell_place dims (lows box)
more dims box views d place off dim b ev l h e f eo inv =
    let p = place-more dims box d dim b l h e f in
    let v = ap (λ vs. get_or vs d 0) ev ∙ view-at dims d h in
    let w = ap (λ n. n * off) v ∙ ap (λ n. cell_count (map size_of (drop (d + 1) dims)) * n) eo in
    omega (arith, inv, p, w)

pub bounds-views-d : goal.bounds-views-d
bounds-views-d c = let a = ap length c.requires.views ∙ length-view_steps c.args.dims.now in let t = c.loop-d-test.true in omega (arith, a, t)

pub bounds-boxed-d : goal.bounds-boxed-d
bounds-boxed-d c = let a = length-box c.args.dims.now c.args.boxed.now c.requires.inside in let t = c.loop-d-test.true in omega (arith, a, t)

pub offset-requires : goal.offset-requires
offset-requires c = box-at c.args.dims.now c.args.boxed.now c.loop-d.d c.index-dims-d.result c.index-boxed-d.result c.requires.inside c.loop-d-test.true c.index-dims-d.is c.index-boxed-d.is

pub overflow_mul-place : goal.overflow_mul-place
overflow_mul-place c =
    let m = more c.args.dims.now c.args.boxed.now c.args.views.now c.loop-d.d c.loop-d.place c.offset.result c.index-dims-d.result c.index-boxed-d.result c.requires.views
    (length-box c.args.dims.now c.args.boxed.now c.requires.inside) c.loop-d-test.true c.index-dims-d.is c.index-boxed-d.is c.offset.ensures c.loop-d.invariant in
    let s = first-small c.args.dims.now c.args.boxed.now c.requires.inside in
    omega (arith, m, s, c.requires.few)

pub overflow_add-place : goal.overflow_add-place
overflow_add-place c =
    let m = more c.args.dims.now c.args.boxed.now c.args.views.now c.loop-d.d c.loop-d.place c.offset.result c.index-dims-d.result c.index-boxed-d.result c.requires.views
    (length-box c.args.dims.now c.args.boxed.now c.requires.inside) c.loop-d-test.true c.index-dims-d.is c.index-boxed-d.is c.offset.ensures c.loop-d.invariant in
    let s = first-small c.args.dims.now c.args.boxed.now c.requires.inside in
    omega (arith, m, s, c.requires.few)

pub loop-d-preserved : goal.loop-d-preserved
loop-d-preserved c =
    more c.args.dims.now c.args.boxed.now c.args.views.now c.loop-d.d c.loop-d.place c.offset.result c.index-dims-d.result c.index-boxed-d.result c.requires.views
    (length-box c.args.dims.now c.args.boxed.now c.requires.inside) c.loop-d-test.true c.index-dims-d.is c.index-boxed-d.is c.offset.ensures c.loop-d.invariant

pub overflow_cast-result : goal.overflow_cast-result
overflow_cast-result c =
    let inv = c.loop-d.invariant in
    let s = first-small c.args.dims.now c.args.boxed.now c.requires.inside in
    omega (arith, inv, s, c.requires.few)
