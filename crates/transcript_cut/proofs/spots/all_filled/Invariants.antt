use Rattle.std.proofs.Common.{◌≡◌, Some, map, take}
use Rattle.transcript_cut.proofs.spots.all_filled.Given as goal

abbrev pub invariant-loop-slot : goal.invariant-loop-slot
invariant-loop-slot l = map (λ spot. Some spot) l.spots.items ≡ take l.slot-index l.slots
