use Rattle.std.proofs.Common.{arith}
use Rattle.transcript_cut.proofs.Slots.{filled_more}
use Rattle.transcript_cut.proofs.spots.all_filled.Goals as goal

pub loop-slot-preserved : goal.loop-slot-preserved
loop-slot-preserved c = filled_more c.args.slots.now c.loop-slot.spots.items _ c.loop-slot.slot-index c.in-Some.spot (omega arith) c.loop-slot.invariant c.in-Some.is c.in_ok-push-in-Some.ensures.items
