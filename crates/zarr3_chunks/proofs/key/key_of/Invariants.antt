use Rattle.std.proofs.Common.{◌≡◌, take, string_bytes}
use Rattle.zarr3_chunks.specs.Key.{chunk_key}
use Rattle.zarr3_chunks.proofs.key.key_of.Given as goal

abbrev pub invariant-loop-index : goal.invariant-loop-index
invariant-loop-index l = string_bytes l.key ≡ chunk_key l.fn.m.dot (take l.index-index l.chunk)
