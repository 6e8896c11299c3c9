use Rattle.std.proofs.Common.{sym, ◌∙◌, length, ◌+◌}
use Rattle.kv_mounts.proofs.Together.{below_more, cut_more}
use Rattle.kv_mounts.proofs.mount.all_below.Goals as goal

pub loop-change-preserved : goal.loop-change-preserved
loop-change-preserved c = record {
  below = below_more c.args.name.now c.args.changes.now c.args.from c.loop-change.change-index c.change-item.result c.items.result.now c.loop-change-test.true c.change-item.is c.items.ensures c.loop-change.invariant.below
      (sym c.lies_below.ensures.below ∙ c.if-not-lies_below.false);
  cut = cut_more (c.args.from + (length c.args.name.now + 1)) c.args.changes.now c.loop-change.change-index c.change-item.result c.items.result.now c.loop-change-test.true c.change-item.is c.items.ensures c.loop-change.invariant.cut
      (c.lies_below.ensures.cut c.if-not-lies_below.false);
}
