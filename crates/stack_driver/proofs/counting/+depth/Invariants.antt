use Rattle.std.proofs.Common.{◌≡◌, ◌^◌, ◌-◌, min, map, take}
use Rattle.stack_driver.specs.Counts.{depth_of, greatest_of}
use Rattle.stack_driver.proofs.counting.+depth.Given as goal

abbrev pub invariant-deepest-loop-layer : goal.invariant-deepest-loop-layer
invariant-deepest-loop-layer l = l.most ≡ min (greatest_of (map depth_of (take l.layer-index l.layers))) (2 ^ 32 - 1)
