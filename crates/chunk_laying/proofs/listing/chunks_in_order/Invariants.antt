use Rattle.std.proofs.Common.{◌≡◌, take}
use Rattle.chunk_laying.specs.Resized.{cut_indices}
use Rattle.chunk_laying.proofs.listing.chunks_in_order.Given as goal

abbrev pub invariant-loop-place : goal.invariant-loop-place
invariant-loop-place l = l.chunks.items ≡ take l.place (cut_indices l.chunk_shape l.old l.new)
