use Rattle.std.proofs.Common.{◌≡◌, take}
use Rattle.made_scripts.specs.Summary.{commits}
use Rattle.made_scripts.proofs.telling.commits.Given as goal

abbrev pub invariant-loop-event : goal.invariant-loop-event
invariant-loop-event l = l.count ≡ commits (take l.event-index l.history)
