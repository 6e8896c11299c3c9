use Rattle.std.proofs.Common.{arith, ◌∙◌, ◌∷◌, ap, take_all, ◌/◌, get_or, refl}
use Rattle.history.specs.Chunks.{chunk_index}
use Rattle.transaction_cells.proofs.PlaceLaws.{chunk_index-more, length-chunk_index}
use Rattle.transaction_cells.proofs.locating.write_id.Goals as goal

pub loop-k-preserved : goal.loop-k-preserved
loop-k-preserved c =
    c.in_ok-push-2.ensures.items
    ∙ chunk_index-more c.args.chunk.now c.args.index.now c.loop-k.id.items c.args.array c.loop-k.k (get_or c.args.index.now c.loop-k.k 0 / get_or c.args.chunk.now c.loop-k.k 0)
    c.requires.same c.loop-k-test.true refl c.loop-k.invariant

pub returns : goal.returns
returns c =
    let long = length-chunk_index c.args.chunk.now c.args.index.now c.requires.same in
    let done = c.loop-k-test.false in
    c.loop-k.invariant ∙ ap (λ xs. c.args.array ∷ xs) (take_all c.loop-k.k (chunk_index c.args.chunk.now c.args.index.now) (omega (arith, long, done)))
