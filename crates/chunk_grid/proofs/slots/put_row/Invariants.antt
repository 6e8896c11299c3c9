use Rattle.std.proofs.Common.{◌≡◌, ◌+◌, map, take}
use Rattle.chunk_grid.specs.Slots.{AreUpTo, together, put_all}
use Rattle.chunk_grid.proofs.slots.put_row.Given as goal

-- the slots have the cells so far
abbrev pub invariant-loop-j : goal.invariant-loop-j
invariant-loop-j l = record {
  value : l.slots ≡ put_all l.fn.slots l.view (map (together l.head) (take l.j l.row));
  before : AreUpTo (l.view + l.j) l.slots;
}
