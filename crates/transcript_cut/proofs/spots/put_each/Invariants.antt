use Rattle.std.proofs.Common.{◌≡◌, ◌<◌, ℕ, None, length, take, get_or}
use Rattle.transcript_cut.specs.Numbered.{slot_after}
use Rattle.transcript_cut.proofs.spots.put_each.Given as goal

abbrev pub invariant-loop-number : goal.invariant-loop-number
invariant-loop-number l = (k : ℕ) → k < length l.fn.slots → get_or l.slots k None ≡ slot_after (take l.number-index l.numbers) l.spot k (get_or l.fn.slots k None)
