use Rattle.std.proofs.Common.{◌≡◌, ◌∷◌, take, string_bytes}
use Rattle.zarr_chunks.specs.Key.{joined_indices}
use Rattle.zarr_chunks.proofs.key.joined.Given as goal

abbrev pub invariant-loop-index : goal.invariant-loop-index
invariant-loop-index l = string_bytes l.key ≡ joined_indices l.between (l.fn.first ∷ take l.index-index l.rest)
