use Rattle.std.proofs.Common.{◌≡◌, ◌++◌, map}
use Rattle.std.specs.List.{AllByRecursion}
use Rattle.stack_driver.specs.Targets.{LeadTo}
use Rattle.transaction_cells.specs.Lanes.{LaneSeen, cast_lane}
use Rattle.transaction_cells.proofs.lanes.put_cast.Given as goal

-- the lanes that are left
abbrev pub invariant-loop-lane : goal.invariant-loop-lane
invariant-loop-lane l = record {
  lead : AllByRecursion (λ (lane : LaneSeen). LeadTo lane.casts l.cast.from) l.lane-iterator.rest.items;
  lanes : l.lanes.items ++ map (cast_lane l.cast) l.lane-iterator.rest.items ≡ l.fn.lanes.items ++ map (cast_lane l.cast) l.fn.below.items;
}
