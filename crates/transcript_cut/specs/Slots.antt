-- A slot for each number of an event, filled with the spot of an answer that prints it.
use Rattle.std.specs.Prelude.{◌≡◌, ◌<◌, ℕ, ◌+◌, List, length, slice_index_or, false, Option, Some, None}
use Rattle.transcript_cut.specs.Numbered.{PrintsAt, is_printed, said_numbers}
use Rattle.transcript_cut.specs.declared.said.Said.{Said}

-- a slot that is filled has the spot of an answer that prints its event's number, and none of the answers that were gone over prints that
-- of an empty one
pub record AreSlots (slots : List (Option ℕ)) (said over : List Said) : Type 0 where
  pub filled : (k spot : ℕ) → k < length slots → slice_index_or slots k None ≡ Some spot → PrintsAt said spot (k + 1)
  pub empty : (k : ℕ) → k < length slots → slice_index_or slots k None ≡ None
      → is_printed (k + 1) (said_numbers over) ≡ false
