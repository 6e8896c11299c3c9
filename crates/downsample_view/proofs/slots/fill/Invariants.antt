use Rattle.std.proofs.Common.{◌≡◌, length, map, take}
use Rattle.std.specs.List.{range_with_len}
use Rattle.downsample_view.specs.Places.{words_to, kept_slot}
use Rattle.downsample_view.proofs.slots.fill.Given as goal

abbrev pub invariant-loop-k : goal.invariant-loop-k
invariant-loop-k l = l.slots ≡ map (λ q. kept_slot l.method l.dtype (words_to q (take l.k l.places) (take l.k l.words))) (range_with_len 0 (length l.fn.slots))
