use Rattle.std.proofs.Common.{◌≡◌, ◌+◌, length, map, take}
use Rattle.stack_targets.specs.Landings.{all_leaves, ground_of}
use Rattle.stack_targets.proofs.naming.layer_of.Given as goal

-- the leaf isn't one of the layers before
abbrev pub invariant-loop-place : goal.invariant-loop-place
invariant-loop-place l = l.fn.leaf ≡ length (all_leaves (map ground_of (take l.place l.layers))) + l.rest
