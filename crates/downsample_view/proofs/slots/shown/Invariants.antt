use Rattle.std.proofs.Common.{◌≡◌, map, take, unwrap_or}
use Rattle.downsample_view.proofs.slots.shown.Given as goal

abbrev pub invariant-loop-slot : goal.invariant-loop-slot
invariant-loop-slot l = l.all.items ≡ map (λ slot. unwrap_or slot 0) (take l.slot-index l.slots)
