use Rattle.std.proofs.Common.{◌≡◌, map}
use Rattle.std.specs.List.{range_with_len}
use Rattle.downsample_view.specs.Places.{no_slot}
use Rattle.downsample_view.proofs.slots.no_slots.Given as goal

abbrev pub invariant-loop-k : goal.invariant-loop-k
invariant-loop-k l = l.slots.items ≡ map no_slot (range_with_len 0 l._k)
