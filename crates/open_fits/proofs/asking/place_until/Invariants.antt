use Rattle.std.proofs.Common.{take}
use Rattle.history.specs.Places.{IsTable}
use Rattle.open_fits.proofs.asking.place_until.Given as goal

abbrev pub invariant-loop-n : goal.invariant-loop-n
invariant-loop-n l = IsTable (take l.n l.events) l.places
