use Rattle.std.proofs.Common.{◌≡◌, ◌+◌, length}
use Rattle.event_replay.specs.Links.{AreLinked}
use Rattle.event_replay.proofs.ends.ends_of.Given as goal

-- those so far are linked
abbrev pub invariant-loop-i : goal.invariant-loop-i
invariant-loop-i l = record {
  numbers : length l.last.items ≡ l.most + 1;
  links : AreLinked l.waiting l.i l.last.items l.earlier.items;
}
