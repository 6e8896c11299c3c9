use Rattle.std.proofs.Common.{◌≡◌, ◌++◌, length}
use Rattle.chunk_grid.specs.Slots.{pieces_from}
use Rattle.chunk_grid.proofs.slots.pieces_of_slots.Given as goal

-- the pieces of the slots so far
abbrev pub invariant-loop-slot : goal.invariant-loop-slot
invariant-loop-slot l = record {
  number : l.number ≡ length l.yielded;
  whole : l.yielded ++ l.slot-iterator.rest.items ≡ l.fn.slots.items;
  pieces : l.pieces.items ≡ pieces_from l.counts 0 l.yielded;
}
