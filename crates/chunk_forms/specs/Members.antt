-- The members without which no array is made.
use Rattle.std.specs.Prelude.{ℕ, List, codes}
use Rattle.chunk_forms.specs.declared.member.Member.{Member}
use Rattle.chunk_forms.specs.declared.member.Member.TheVariants.{Shape, Dimensions, Dtype, Chunks, BlockSize, ChunkGrid}

-- the name of a member
abbrev pub member_name : Member → List ℕ
member_name Shape = codes "shape"
member_name Dimensions = codes "dimensions"
member_name Dtype = codes "dtype"
member_name Chunks = codes "chunks"
member_name BlockSize = codes "blockSize"
member_name ChunkGrid = codes "chunk_grid"
