use Rattle.std.proofs.Common.{take}
use Rattle.transcript_cut.specs.Slots.{AreSlots}
use Rattle.transcript_cut.proofs.spots.put_all.Given as goal

abbrev pub invariant-loop-spot : goal.invariant-loop-spot
invariant-loop-spot l = AreSlots l.slots l.said (take l.spot l.said)
