use Rattle.std.proofs.Common.{◌≡◌, take, true}
use Rattle.std.specs.List.{list_all}
use Rattle.index_intervals.specs.Bounds.{is_ordered}
use Rattle.chunk_grid.proofs.boxes.copied.Given as goal

-- the dimensions so far are copied, and their bounds are in order
abbrev pub invariant-loop-dim : goal.invariant-loop-dim
invariant-loop-dim l = record {
  copy : l.copy.items ≡ take l.dim-index l.dims;
  ordered : list_all is_ordered (take l.dim-index l.dims) ≡ true;
}
