use Rattle.std.proofs.Common.{◌≡◌, ◌^◌, ◌-◌, min, map, take}
use Rattle.stack_driver.specs.Counts.{leaves_of, sum_of}
use Rattle.stack_driver.proofs.counting.+leaves.Given as goal

abbrev pub invariant-all_leaves-loop-layer : goal.invariant-all_leaves-loop-layer
invariant-all_leaves-loop-layer l = l.count ≡ min (sum_of (map leaves_of (take l.layer-index l.layers))) (2 ^ 32 - 1)
