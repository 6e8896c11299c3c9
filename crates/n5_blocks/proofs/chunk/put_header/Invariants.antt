use Rattle.std.proofs.Common.{◌≡◌, ◌++◌, take, true, length}
use Rattle.std.specs.List.{flat_map}
use Rattle.chunk_elements.specs.Bytes.{word_bytes}
use Rattle.chunk_elements.specs.declared.Dtype.TheVariants.{U16, U32}
use Rattle.n5_blocks.proofs.chunk.put_header.Given as goal

abbrev pub invariant-loop-size : goal.invariant-loop-size
invariant-loop-size l = l.out.items ≡ l.fn.out.items ++ (word_bytes U16 true 0 ++ word_bytes U16 true (length l.sizes) ++ flat_map (word_bytes U32 true) (take l.size-index l.sizes))
