use Rattle.std.proofs.Common.{◌≡◌, map, take}
use Rattle.transaction_cells.specs.Lanes.{LaneSeen}
use Rattle.event_replay.specs.Demands.{bare, AreCovered}
use Rattle.event_replay.proofs.demanding.bare_cells.Given as goal

-- of the cells so far those are kept that no word covers, and the others are shown
abbrev pub invariant-loop-i : goal.invariant-loop-i
invariant-loop-i l = record {
  rest : l.rest.items ≡ bare (take l.i l.asked) (take l.i l.own);
  covered : AreCovered (map (λ (lane : LaneSeen). lane.casts) l.lanes) (take l.i l.asked) (take l.i l.own);
}
