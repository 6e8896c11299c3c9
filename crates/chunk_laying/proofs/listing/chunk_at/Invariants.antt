use Rattle.std.proofs.Common.{◌≡◌, ◌<◌, ◌≤◌, ◌++◌, [], length, drop}
use Rattle.std.specs.Prelude.{slice_index_or}
use Rattle.chunk_laying.specs.Behind.{chunks_of}
use Rattle.chunk_laying.specs.Resized.{cut_indices}
use Rattle.chunk_laying.proofs.listing.chunk_at.Given as goal

-- the chunk's numbers along the dimensions that are done, and its place behind them
abbrev pub invariant-loop-k : goal.invariant-loop-k
invariant-loop-k l = record {
  so_far : l.chunk.items ++ slice_index_or (chunks_of l.here.is_cut (drop l.k l.chunk_shape) (drop l.k l.old) (drop l.k l.new)) l.here.place []
      ≡ slice_index_or (cut_indices l.chunk_shape l.old l.new) l.fn.place [];
  below : l.here.place < length (chunks_of l.here.is_cut (drop l.k l.chunk_shape) (drop l.k l.old) (drop l.k l.new));
  few : l.here.place ≤ 65536;
}
