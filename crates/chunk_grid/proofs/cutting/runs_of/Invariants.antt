use Rattle.std.proofs.Common.{◌≡◌, map, take, length}
use Rattle.chunk_grid.specs.Grid.{numbers}
use Rattle.chunk_grid.specs.Cuts.{AreCuts}
use Rattle.chunk_grid.proofs.cutting.runs_of.Given as goal

-- the cuts have the index vectors so far
abbrev pub invariant-loop-view : goal.invariant-loop-view
invariant-loop-view l = record {
  cuts : AreCuts l.grid.chunk (map numbers (take l.view l.targets)) l.cuts;
  room : length l.chunk.items ≡ length l.grid.shape;
}
