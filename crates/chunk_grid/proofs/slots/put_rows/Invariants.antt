use Rattle.std.proofs.Common.{◌≡◌, ◌*◌, length, take}
use Rattle.chunk_grid.specs.Slots.{AreUpTo, products, put_all}
use Rattle.chunk_grid.proofs.slots.put_rows.Given as goal

-- the slots have the rows so far
abbrev pub invariant-loop-head : goal.invariant-loop-head
invariant-loop-head l = record {
  view : l.view ≡ l.head-index * length l.row;
  value : l.slots ≡ put_all l.fn.slots 0 (products (take l.head-index l.heads) l.row);
  before : AreUpTo l.view l.slots;
}
