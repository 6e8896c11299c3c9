use Rattle.std.proofs.Common.{take}
use Rattle.std.specs.List.{AllByRecursion}
use Rattle.event_replay.proofs.FollowLaws.{IsPieceBelow}
use Rattle.event_replay.proofs.following.are_of_arrays.Given as goal

-- so are those of the pieces so far
abbrev pub invariant-loop-i : goal.invariant-loop-i
invariant-loop-i l = AllByRecursion (IsPieceBelow l.opened) (take l.i l.pieces)
