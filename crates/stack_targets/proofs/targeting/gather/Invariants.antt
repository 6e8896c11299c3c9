use Rattle.std.proofs.Common.{◌≡◌, length}
use Rattle.stack_driver.specs.Views.{look_of}
use Rattle.stack_targets.proofs.Gathered.{IsGathered}
use Rattle.stack_targets.proofs.targeting.gather.Given as goal

abbrev pub invariant-loop-index : goal.invariant-loop-index
invariant-loop-index l = record {
  rank : l.walk.rank ≡ length (look_of l.v).dims;
  room : length l.index ≡ length (look_of l.v).dims;
  gathered : IsGathered l.v l.walk.cells l.buffers.leaves.items l.buffers.numbers.items;
}

abbrev pub decreases-loop-index : goal.decreases-loop-index
decreases-loop-index l = length l.walk.cells
