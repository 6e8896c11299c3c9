use Rattle.std.proofs.Common.{◌≡◌, [], take, drop}
use Rattle.locations.specs.Tables.{place_at, first_above}
use Rattle.locations.proofs.table.above.Given as goal

-- the rest is looked at behind what was passed
abbrev pub invariant-loop-i : goal.invariant-loop-i
invariant-loop-i l = first_above (place_at l.table) [] l.location ≡ first_above (place_at l.table) (take l.i l.location) (drop l.i l.location)
