use Rattle.std.proofs.Common.{rules, arith, ap, sym, ◌∙◌, ◌/◌, ℤ, pos, FitsSigned, w64, get_or, nat_abs, take_all}
use Rattle.std.proofs.lemmas.Int.{ints, to_z-of_z}
use Rattle.chunk_grid.specs.Grid.{numbers, chunk_index}
use Rattle.chunk_grid.proofs.GridLaws.{from_zero_at, chunk_index-more, length-chunk_index, length-numbers}
use Rattle.chunk_grid.proofs.grid.index_over.Goals as goal

pub overflow_cast-out : goal.overflow_cast-out
overflow_cast-out c =
    let low = from_zero_at c.args.index.now c.loop-k.k c.requires.from_zero (omega arith) in
    let fits : FitsSigned w64 (get_or c.args.index.now c.loop-k.k (pos 0)) = search rules in
    let stored = to_z-of_z w64 (get_or c.args.index.now c.loop-k.k (pos 0)) fits in
    rw stored (omega (arith, ints), omega (arith, ints))

pub nonzero_div-out : goal.nonzero_div-out
nonzero_div-out c = c.requires.positive c.loop-k.k 0 (omega arith)

pub loop-k-preserved : goal.loop-k-preserved
loop-k-preserved c =
    let fits : FitsSigned w64 (get_or c.args.index.now c.loop-k.k (pos 0)) = search rules in
    let stored = to_z-of_z w64 (get_or c.args.index.now c.loop-k.k (pos 0)) fits in
    chunk_index-more c.args.chunk.now c.args.index.now c.loop-k.out c.loop-k.k _ c.requires.same (omega arith) (omega arith)
    (ap (λ (x : ℤ). nat_abs x / get_or c.args.chunk.now c.loop-k.k 0) stored) c.loop-k.invariant

pub returns : goal.returns
returns c =
    let long = length-chunk_index c.args.chunk.now (numbers c.args.index.now) (length-numbers c.args.index.now ∙ c.requires.same) in
    sym (take_all c.loop-k.k c.loop-k.out (omega arith))
    ∙ c.loop-k.invariant
    ∙ take_all c.loop-k.k (chunk_index c.args.chunk.now (numbers c.args.index.now)) (omega arith)
