use Rattle.std.proofs.Common.{take}
use Rattle.std.specs.List.{AllByRecursion}
use Rattle.event_replay.proofs.WindowLaws.{IsAskedBelow}
use Rattle.event_replay.proofs.windows.are_asked_of_arrays.Given as goal

-- so are those of the pieces so far
abbrev pub invariant-loop-i : goal.invariant-loop-i
invariant-loop-i l = AllByRecursion (IsAskedBelow l.opened) (take l.i l.pieces)
