use Rattle.std.proofs.Common.{◌≡◌, ◌-◌, map, take, Result}
use Rattle.stack_driver.specs.declared.error.TargetError.{TargetError}
use Rattle.stack_targets.specs.Landings.{Landing, ground_of, last_landing}
use Rattle.stack_targets.proofs.landing.last_with.Given as goal

-- the layers behind the end and those that were looked at don't have the index vector
abbrev pub invariant-loop-behind : goal.invariant-loop-behind
invariant-loop-behind l =
    (found : Result Landing TargetError) → last_landing 0 (map ground_of l.layers) l.index found ≡ last_landing 0 (map ground_of (take (l.end - l.behind) l.layers)) l.index found
