use Rattle.std.proofs.Common.{arith, add-one}
use Rattle.cells.proofs.Laws.{c_place-step, c_place-bound}
use Rattle.history.specs.Chunks.{within_chunk}
use Rattle.transaction_cells.proofs.PlaceLaws.{within_chunk-at, inside_within, place-lt, whole_place}
use Rattle.transaction_cells.proofs.locating.place_in.Goals as goal

pub nonzero_rem-place : goal.nonzero_rem-place
nonzero_rem-place c = let one = c.requires.chunk.least c.loop-k.k (omega arith) in omega (arith, one)

pub overflow_mul-place : goal.overflow_mul-place
overflow_mul-place c =
    let within = within_chunk c.args.chunk.now c.args.index.now in
    let inside = inside_within c.args.chunk.now c.args.index.now c.requires.chunk c.requires.same in
    let bound = c_place-bound c.args.chunk.now within c.loop-k.k c.loop-k.place inside c.loop-k-test.true c.loop-k.invariant in
    let small = c.requires.chunk.volume in
    omega (arith, bound, small)

pub overflow_add-place : goal.overflow_add-place
overflow_add-place c =
    let within = within_chunk c.args.chunk.now c.args.index.now in
    let inside = inside_within c.args.chunk.now c.args.index.now c.requires.chunk c.requires.same in
    let bound = c_place-bound c.args.chunk.now within c.loop-k.k c.loop-k.place inside c.loop-k-test.true c.loop-k.invariant in
    let here = within_chunk-at c.args.chunk.now c.args.index.now c.loop-k.k c.requires.same c.loop-k-test.true in
    let small = c.requires.chunk.volume in
    omega (arith, bound, small, here)

pub loop-k-preserved : goal.loop-k-preserved
loop-k-preserved c =
    let within = within_chunk c.args.chunk.now c.args.index.now in
    let inside = inside_within c.args.chunk.now c.args.index.now c.requires.chunk c.requires.same in
    let here = within_chunk-at c.args.chunk.now c.args.index.now c.loop-k.k c.requires.same c.loop-k-test.true in
    rw (add-one c.loop-k.k, ← here) (c_place-step c.args.chunk.now within c.loop-k.k c.loop-k.place inside c.loop-k-test.true c.loop-k.invariant)

pub overflow_cast-result : goal.overflow_cast-result
overflow_cast-result c =
    let done = c.loop-k-test.false in
    let whole = whole_place c.args.chunk.now (within_chunk c.args.chunk.now c.args.index.now) c.loop-k.k c.loop-k.place _ (omega (arith, done)) c.loop-k.invariant in
    let below = place-lt c.args.chunk.now c.args.index.now c.requires.chunk c.requires.same in
    let small = c.requires.chunk.volume in
    omega (arith, whole, below, small)
