use Rattle.std.proofs.Common.{◌-◌, sym, refl, arith}
use Rattle.history.proofs.Laws.{all_positive}
use Rattle.chunk_laying.proofs.CountLaws.{counted-step, behind-step}
use Rattle.chunk_laying.proofs.listing.count_behind.Goals as goal

pub loop-k-preserved : goal.loop-k-preserved
loop-k-preserved c = record {
  counted =
      counted-step c.args.chunk_shape.now c.args.old.now c.args.new.now (c.loop-k.k - 1) c.loop-k.k c.loop-k.all c.loop-k.cut c.div_ceil-count.result c.whole_along-whole.result c.all_with-all.result c.cut_with-cut.result
      (omega arith) (all_positive c.args.chunk_shape.now c.requires.chunks.least) (sym c.requires.old) (omega arith) (omega arith)
      c.div_ceil-count.ensures c.whole_along-whole.ensures.value c.whole_along-whole.ensures.most c.all_with-all.ensures c.cut_with-cut.ensures c.loop-k.invariant.counted;
  done =
      behind-step c.args.chunk_shape.now c.args.old.now c.args.new.now c.loop-k.behind _ (c.loop-k.k - 1) c.loop-k.k (record { all = c.loop-k.all; cut = c.loop-k.cut })
      (omega arith) (omega arith) refl c.loop-k.invariant.counted c.loop-k.invariant.done;
}
