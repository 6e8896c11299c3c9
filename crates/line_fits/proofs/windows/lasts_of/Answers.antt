use Rattle.std.proofs.Common.{◌<◌, length, arith}
use Rattle.line_fits.proofs.Walls.{lasts_step}
use Rattle.line_fits.proofs.windows.lasts_of.Goals as goal

pub loop-k-preserved : goal.loop-k-preserved
loop-k-preserved c =
    let s = c.said_at.result.now in
    let low : c.loop-k.k < length c.args.said.now = omega arith in
    lasts_step c.args.said.now c.loop-k.k c.loop-k.seen c.last_behind-seen.result c.loop-k.lasts.items _ s low (c.said_at.ensures s) c.loop-k.invariant c.last_behind-seen.ensures c.in_ok-push.ensures.items
