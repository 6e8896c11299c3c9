use Rattle.std.proofs.Common.{take}
use Rattle.std.specs.List.{AllByRecursion}
use Rattle.history.specs.History.{History}
use Rattle.history.specs.Writes.{puts_of}
use Rattle.event_replay.specs.Sweeps.{IsFront, IsOpIn}
use Rattle.line_fits.specs.StoredPuts.{AreStored, PutsStored}
use Rattle.line_fits.proofs.failing.ops_put_stored.Given as goal

-- no operation so far puts a word in a stored array
abbrev pub invariant-loop-i : goal.invariant-loop-i
invariant-loop-i l = (events : History) (before : History) → IsFront events before l.opened → AreStored events l.stored → AllByRecursion (IsOpIn events) l.ops
    → ¬ PutsStored before (puts_of (take l.i l.ops))
