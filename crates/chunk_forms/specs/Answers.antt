-- Answers of the formats' decoders as answers of one.
use Rattle.std.specs.Prelude.{Result, Ok, Err}
use Rattle.zarr_chunks.specs.Dense.{DenseCells}
use Rattle.zarr_chunks.specs.declared.ChunkError.{ChunkError}
use Rattle.zarr_chunks.specs.declared.ChunkError.TheVariants as chunk
use Rattle.n5_blocks.specs.declared.chunk.BlockError.{BlockError}
use Rattle.n5_blocks.specs.declared.chunk.BlockError.TheVariants as block
use Rattle.chunk_forms.specs.declared.form.FormError.{FormError}
use Rattle.chunk_forms.specs.declared.form.FormError.TheVariants.{Damaged, Memory}
use Rattle.chunk_forms.specs.declared.form.Damage.TheVariants as damage

-- the cells, the damage or want of memory
abbrev pub of_zarr : Result DenseCells ChunkError → Result DenseCells FormError
of_zarr (Ok cells) = Ok cells
of_zarr (Err chunk.Memory) = Err Memory
of_zarr (Err (chunk.WrongLength have want)) = Err (Damaged (damage.Zarr (chunk.WrongLength have want)))

abbrev pub of_block : BlockError → FormError
of_block block.Memory = Memory
of_block (block.WrongMode have) = Damaged (damage.N5 (block.WrongMode have))
of_block (block.WrongRank have) = Damaged (damage.N5 (block.WrongRank have))
of_block (block.WrongSize dim have) = Damaged (damage.N5 (block.WrongSize dim have))
of_block (block.WrongLength have want) = Damaged (damage.N5 (block.WrongLength have want))

abbrev pub of_n5 : Result DenseCells BlockError → Result DenseCells FormError
of_n5 (Ok cells) = Ok cells
of_n5 (Err cause) = Err (of_block cause)
