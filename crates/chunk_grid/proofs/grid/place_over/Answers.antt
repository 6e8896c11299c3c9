use Rattle.std.proofs.Common.{rules, arith, ◌∙◌, add-one, pos, FitsSigned, w64, get_or}
use Rattle.std.proofs.lemmas.Int.{ints, to_z-of_z}
use Rattle.cells.proofs.Laws.{c_place-step, c_place-bound}
use Rattle.chunk_grid.specs.Grid.{numbers, within_chunk}
use Rattle.chunk_grid.proofs.GridLaws.{from_zero_at, within_chunk-at, length-numbers, inside_within}
use Rattle.chunk_grid.proofs.grid.place_over.Goals as goal

pub overflow_cast-place : goal.overflow_cast-place
overflow_cast-place c =
    let low = from_zero_at c.args.index.now c.loop-k.k c.requires.from_zero (omega arith) in
    let fits : FitsSigned w64 (get_or c.args.index.now c.loop-k.k (pos 0)) = search rules in
    let stored = to_z-of_z w64 (get_or c.args.index.now c.loop-k.k (pos 0)) fits in
    rw stored (omega (arith, ints), omega (arith, ints))

pub nonzero_rem-place : goal.nonzero_rem-place
nonzero_rem-place c = c.requires.positive c.loop-k.k 0 (omega arith)

pub overflow_mul-place : goal.overflow_mul-place
overflow_mul-place c =
    let within = within_chunk c.args.chunk.now (numbers c.args.index.now) in
    let inside = inside_within c.args.chunk.now (numbers c.args.index.now) (length-numbers c.args.index.now ∙ c.requires.same) c.requires.positive in
    let bound = c_place-bound c.args.chunk.now within c.loop-k.k c.loop-k.place inside c.loop-k-test.true c.loop-k.invariant in
    omega arith

pub overflow_add-place : goal.overflow_add-place
overflow_add-place c =
    let within = within_chunk c.args.chunk.now (numbers c.args.index.now) in
    let inside = inside_within c.args.chunk.now (numbers c.args.index.now) (length-numbers c.args.index.now ∙ c.requires.same) c.requires.positive in
    let bound = c_place-bound c.args.chunk.now within c.loop-k.k c.loop-k.place inside c.loop-k-test.true c.loop-k.invariant in
    let fits : FitsSigned w64 (get_or c.args.index.now c.loop-k.k (pos 0)) = search rules in
    let stored = to_z-of_z w64 (get_or c.args.index.now c.loop-k.k (pos 0)) fits in
    let here = within_chunk-at c.args.chunk.now c.args.index.now c.loop-k.k c.requires.same c.loop-k-test.true in
    rw stored (omega arith)

pub loop-k-preserved : goal.loop-k-preserved
loop-k-preserved c =
    let within = within_chunk c.args.chunk.now (numbers c.args.index.now) in
    let inside = inside_within c.args.chunk.now (numbers c.args.index.now) (length-numbers c.args.index.now ∙ c.requires.same) c.requires.positive in
    let fits : FitsSigned w64 (get_or c.args.index.now c.loop-k.k (pos 0)) = search rules in
    let stored = to_z-of_z w64 (get_or c.args.index.now c.loop-k.k (pos 0)) fits in
    let here = within_chunk-at c.args.chunk.now c.args.index.now c.loop-k.k c.requires.same c.loop-k-test.true in
    rw (add-one c.loop-k.k, stored, ← here) (c_place-step c.args.chunk.now within c.loop-k.k c.loop-k.place inside c.loop-k-test.true c.loop-k.invariant)
