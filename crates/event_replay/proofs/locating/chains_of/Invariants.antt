use Rattle.std.proofs.Common.{◌≡◌, ◌++◌, map}
use Rattle.transaction_cells.specs.Lanes.{LaneSeen}
use Rattle.event_replay.proofs.locating.chains_of.Given as goal

-- the casts of the lanes so far, and the others are left
abbrev pub invariant-loop-lane : goal.invariant-loop-lane
invariant-loop-lane l = record {
  casts : l.chains.items ≡ map (λ (lane : LaneSeen). lane.casts) l.yielded;
  rest : l.fn.lanes ≡ l.yielded ++ l.lane-iterator.rest.items;
}
