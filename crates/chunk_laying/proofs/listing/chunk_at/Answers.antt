use Rattle.std.proofs.Common.{◌+◌, arith}
use Rattle.chunk_laying.proofs.NthLaws.{behind-at, below-next, next-number}
use Rattle.chunk_laying.proofs.listing.chunk_at.Goals as goal

pub first_along-here-requires-clause-behind : goal.first_along-here-requires-clause-behind
first_along-here-requires-clause-behind c =
    behind-at c.args.chunk_shape.now c.args.old.now c.args.new.now c.loop-k.k _ _ (c.requires.behind c.loop-k.k _ c.loop-k-test.true)

pub loop-k-preserved : goal.loop-k-preserved
loop-k-preserved c = record {
  so_far =
      next-number c.args.chunk_shape.now c.args.old.now c.args.new.now c.loop-k.chunk.items c.push.new.self.items c.loop-k.k (c.loop-k.k + 1) c.loop-k.here.place c.first_along-here.result.index c.first_along-here.result.place
      c.loop-k.here.is_cut c.first_along-here.result.is_cut _ (omega arith) c.in_ok-push.ensures.items c.loop-k.invariant.so_far c.first_along-here.ensures.chunk;
  below = below-next c.args.chunk_shape.now c.args.old.now c.args.new.now c.loop-k.k (c.loop-k.k + 1) c.first_along-here.result.place c.first_along-here.result.is_cut (omega arith) c.first_along-here.ensures.below;
  few = c.first_along-here.ensures.few;
}
