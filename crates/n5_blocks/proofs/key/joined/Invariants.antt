use Rattle.std.proofs.Common.{◌≡◌, ◌∷◌, take, string_bytes}
use Rattle.n5_blocks.specs.Key.{block_key}
use Rattle.n5_blocks.proofs.key.joined.Given as goal

abbrev pub invariant-loop-index : goal.invariant-loop-index
invariant-loop-index l = string_bytes l.key ≡ block_key (l.fn.first ∷ take l.index-index l.rest)
