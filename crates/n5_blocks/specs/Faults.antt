-- What is wrong with bytes that are no block, the first fault in order.
use Rattle.std.specs.Prelude.{ℕ, ◌+◌, ◌*◌, List, [], ◌∷◌, length, take, drop, map, true, Option, Some, None, ◌==◌, nat_lt, if◌then◌else◌}
use Rattle.std.specs.List.{range_with_len}
use Rattle.std.specs.Option.{option_or}
use Rattle.chunk_elements.specs.Bytes.{byte_count, word_of_bytes}
use Rattle.chunk_elements.specs.Places.{cell_count}
use Rattle.chunk_elements.specs.declared.Dtype.{Dtype}
use Rattle.chunk_elements.specs.declared.Dtype.TheVariants.{U16, U32}
use Rattle.n5_blocks.specs.Metadata.{Metadata}
use Rattle.n5_blocks.specs.declared.chunk.BlockError.{BlockError}
use Rattle.n5_blocks.specs.declared.chunk.BlockError.TheVariants.{WrongMode, WrongRank, WrongSize, WrongLength}

-- the first number of a header: its mode
abbrev pub mode_in : List ℕ → ℕ
mode_in bytes = word_of_bytes U16 true (take 2 bytes)

-- the second number of a header: how many dimensions the block has
abbrev pub rank_in : List ℕ → ℕ
rank_in bytes = word_of_bytes U16 true (take 2 (drop 2 bytes))

-- how many bytes a header of so many dimensions has
abbrev pub header_len : ℕ → ℕ
header_len rank = 4 + 4 * rank

-- the size of a dimension, as a header has it
abbrev pub size_in : List ℕ → ℕ → ℕ
size_in bytes dim = word_of_bytes U32 true (take 4 (drop (header_len dim) bytes))

-- the sizes of so many dimensions
abbrev pub sizes_in : ℕ → List ℕ → List ℕ
sizes_in rank bytes = map (size_in bytes) (range_with_len 0 rank)

-- the first size that is greater than the block's, with its dimension, where the first of these has this number
abbrev pub size_fault : ℕ → List ℕ → List ℕ → Option BlockError
size_fault dim [] sizes = None
size_fault dim (most ∷ block) [] = None
size_fault dim (most ∷ block) (size ∷ sizes) = if nat_lt most size then Some (WrongSize dim size) else size_fault (dim + 1) block sizes

-- another length than a header and the elements of these sizes have
abbrev pub length_fault : Dtype → List ℕ → ℕ → Option BlockError
length_fault dtype sizes have =
    let want = header_len (length sizes) + cell_count sizes * byte_count dtype in
    if have == want then None else Some (WrongLength have want)

-- fewer bytes than a header, else a size that is too great, else another length
abbrev pub cells_fault : Dtype → List ℕ → List ℕ → Option BlockError
cells_fault dtype block bytes =
    if nat_lt (length bytes) (header_len (length block)) then Some (WrongLength (length bytes) (header_len (length block)))
    else option_or (size_fault 0 block (sizes_in (length block) bytes)) (length_fault dtype (sizes_in (length block) bytes) (length bytes))

-- in this order: fewer bytes than a mode and a rank, another mode than 0, another rank than the array's, and the faults of
-- sizes and elements
abbrev pub block_fault : Metadata → List ℕ → Option BlockError
block_fault m bytes =
    if nat_lt (length bytes) 4 then Some (WrongLength (length bytes) 4)
    else if mode_in bytes == 0 then (
    if rank_in bytes == length m.block then cells_fault m.dtype m.block bytes
    else Some (WrongRank (rank_in bytes)))
    else Some (WrongMode (mode_in bytes))
