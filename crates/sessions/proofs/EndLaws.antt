-- What is printed as want of memory is want of memory.
use Rattle.std.proofs.Common.{◌≡◌, ◌∙◌, ℕ, ◌+◌, ◌*◌, Bool, true, false, cond, List, [], ◌∷◌, length, Option, Some, None, refl, ap}
use Rattle.std.specs.Prelude.{◌≢◌, ◌==◌, nat_lt}
use Rattle.std.specs.Option.{option_or}
use Rattle.session_turns.specs.declared.Body.TheVariants.{Memory}
use Rattle.cells.specs.Bytes.{byte_count}
use Rattle.cells.specs.Places.{cell_count}
use Rattle.cells.specs.declared.dtype.Dtype.{Dtype}
use Rattle.chunk_forms.specs.Words.{zarr_fault, n5_fault, chunk_fault}
use Rattle.chunk_forms.specs.declared.form.Damage.{Damage}
use Rattle.chunk_forms.specs.declared.form.Damage.TheVariants as damage
use Rattle.chunk_forms.specs.declared.form.Form.{Form}
use Rattle.chunk_forms.specs.declared.form.Form.TheVariants.{Zarr, N5, Zarr3, Local}
use Rattle.history.specs.Answers as body
use Rattle.history.specs.Answers.{Body}
use Rattle.history.specs.Arrays.{form_of}
use Rattle.history.specs.Commit.{Fixed, Transaction}
use Rattle.history.specs.CommitRows.{IsCommit, conflicts, is_shrunk, is_split, is_damaged, is_done, is_failed, is_wanting}
use Rattle.history.specs.History.{History}
use Rattle.history.specs.Own.{Numbered}
use Rattle.history.specs.Steps.{as_written}
use Rattle.session_turns.specs.Bodies.{body_of}
use Rattle.session_turns.specs.Causes.{damage_body}
use Rattle.n5_blocks.specs.Faults.{size_fault, length_fault, cells_fault, block_fault, mode_in, rank_in, header_len, sizes_in}
use Rattle.n5_blocks.specs.Metadata as n5
use Rattle.n5_blocks.specs.declared.chunk.BlockError.{BlockError}
use Rattle.n5_blocks.specs.declared.chunk.BlockError.TheVariants as block
use Rattle.chunk_elements.specs.Chunk.{Layout, chunk_len}
use Rattle.zarr_chunks.specs.Chunk as zarr
use Rattle.chunk_elements.specs.declared.error.ChunkError.TheVariants as chunk
use Rattle.zarr3_chunks.specs.Chunk as zarr3

-- the fault is one of the bytes
abbrev IsOfBlock : Option BlockError → Type 0
IsOfBlock fault = fault ≢ Some block.Memory

abbrev IsOfBytes : Option Damage → Type 0
IsOfBytes fault = (cause : Damage) → fault ≡ Some cause → (key : List ℕ) → damage_body key cause ≢ Memory

one_of : (b : Bool) (x y : Option BlockError) → IsOfBlock x → IsOfBlock y → IsOfBlock (cond b x y)
one_of true x y p q = p
one_of false x y p q = q

first_of : (x y : Option BlockError) → IsOfBlock x → IsOfBlock y → IsOfBlock (option_or x y)
first_of None y p q = q
first_of (Some e) y p q = p

size_of_block : (dim : ℕ) (shape sizes : List ℕ) → IsOfBlock (size_fault dim shape sizes)
size_of_block dim [] sizes e = let no_such : ⊥ = cc in no_such
size_of_block dim (most ∷ shape) [] e = let no_such : ⊥ = cc in no_such
size_of_block dim (most ∷ shape) (size ∷ sizes) e = one_of (nat_lt most size) (Some (block.WrongSize dim size)) (size_fault (dim + 1) shape sizes) (λ f. let no_such : ⊥ = cc in no_such) (size_of_block (dim + 1) shape sizes) e

length_of_block : (dtype : Dtype) (sizes : List ℕ) (have : ℕ) → IsOfBlock (length_fault dtype sizes have)
length_of_block dtype sizes have =
    let want = header_len (length sizes) + cell_count sizes * byte_count dtype in
    one_of (have == want) None (Some (block.WrongLength have want)) (λ e. let no_such : ⊥ = cc in no_such) (λ e. let no_such : ⊥ = cc in no_such)

cells_of_block : (dtype : Dtype) (shape bytes : List ℕ) → IsOfBlock (cells_fault dtype shape bytes)
cells_of_block dtype shape bytes =
    let sizes = sizes_in (length shape) bytes in
    one_of (nat_lt (length bytes) (header_len (length shape))) (Some (block.WrongLength (length bytes) (header_len (length shape)))) (option_or (size_fault 0 shape sizes) (length_fault dtype sizes (length bytes))) (λ e. let no_such : ⊥ = cc in no_such)
    (first_of (size_fault 0 shape sizes) (length_fault dtype sizes (length bytes)) (size_of_block 0 shape sizes) (length_of_block dtype sizes (length bytes)))

rank_of_block : (m : n5.Metadata) (bytes : List ℕ) → IsOfBlock (cond (rank_in bytes == length m.block) (cells_fault m.dtype m.block bytes) (Some (block.WrongRank (rank_in bytes))))
rank_of_block m bytes = one_of (rank_in bytes == length m.block) (cells_fault m.dtype m.block bytes) (Some (block.WrongRank (rank_in bytes))) (cells_of_block m.dtype m.block bytes) (λ e. let no_such : ⊥ = cc in no_such)

mode_of_block : (m : n5.Metadata) (bytes : List ℕ)
    → IsOfBlock (cond (mode_in bytes == 0) (cond (rank_in bytes == length m.block) (cells_fault m.dtype m.block bytes) (Some (block.WrongRank (rank_in bytes)))) (Some (block.WrongMode (mode_in bytes))))
mode_of_block m bytes =
    one_of (mode_in bytes == 0) (cond (rank_in bytes == length m.block) (cells_fault m.dtype m.block bytes) (Some (block.WrongRank (rank_in bytes)))) (Some (block.WrongMode (mode_in bytes))) (rank_of_block m bytes)
    (λ e. let no_such : ⊥ = cc in no_such)

block_of_bytes : (m : n5.Metadata) (bytes : List ℕ) → IsOfBlock (block_fault m bytes)
block_of_bytes m bytes =
    one_of (nat_lt (length bytes) 4) (Some (block.WrongLength (length bytes) 4))
    (cond (mode_in bytes == 0) (cond (rank_in bytes == length m.block) (cells_fault m.dtype m.block bytes) (Some (block.WrongRank (rank_in bytes)))) (Some (block.WrongMode (mode_in bytes))))
    (λ e. let no_such : ⊥ = cc in no_such) (mode_of_block m bytes)

zarr_of_bytes : (m : Layout) (bytes : List ℕ) → IsOfBytes (zarr_fault m bytes)
zarr_of_bytes m bytes = by (length bytes == chunk_len m)
  where
    by : (b : Bool) → IsOfBytes (cond b None (Some (damage.Zarr (chunk.WrongLength (length bytes) (chunk_len m)))))
    by true cause e key printed = let no_such : ⊥ = cc in no_such
    by false cause e key printed =
        let same : damage.Zarr (chunk.WrongLength (length bytes) (chunk_len m)) ≡ cause = cc in
        let told = ap (damage_body key) same ∙ printed in
        let no_such : ⊥ = cc in no_such

n5_of_bytes : (m : n5.Metadata) (bytes : List ℕ) → IsOfBytes (n5_fault m bytes)
n5_of_bytes m bytes = by (block_fault m bytes) (block_of_bytes m bytes)
  where
    told : (cause : BlockError) → cause ≢ block.Memory → (key : List ℕ) → damage_body key (damage.N5 cause) ≢ Memory
    told (block.WrongMode have) other key e = let no_such : ⊥ = cc in no_such
    told (block.WrongRank have) other key e = let no_such : ⊥ = cc in no_such
    told (block.WrongSize dim have) other key e = let no_such : ⊥ = cc in no_such
    told (block.WrongLength have want) other key e = let no_such : ⊥ = cc in no_such
    told block.Memory other key e = other refl

    by : (fault : Option BlockError) → IsOfBlock fault → IsOfBytes (elim fault [ None ↦ None | Some cause ↦ Some (damage.N5 cause) ])
    by None of cause e key printed = let no_such : ⊥ = cc in no_such
    by (Some fault) of cause e key printed = let same : damage.N5 fault ≡ cause = cc in told fault (λ is. of (ap Some is)) key (ap (damage_body key) same ∙ printed)

fault_of_bytes : (form : Form) (bytes : List ℕ) → IsOfBytes (chunk_fault form bytes)
fault_of_bytes (Zarr meta) bytes cause e key printed = zarr_of_bytes (zarr.layout_of meta) bytes cause e key printed
fault_of_bytes (N5 meta) bytes cause e key printed = n5_of_bytes meta bytes cause e key printed
fault_of_bytes (Zarr3 meta) bytes cause e key printed = zarr_of_bytes (zarr3.layout_of meta) bytes cause e key printed
fault_of_bytes Local bytes cause e key printed = let no_such : ⊥ = cc in no_such

-- so it is of a commit
pub commit_ends : (fixed : Fixed) (owner : ℕ) (events : History) (t : Transaction) (left : Option Transaction) (answer : Body) (own : List Numbered) → IsCommit fixed owner events t left answer own → body_of answer ≡ Memory → answer ≡ body.memory
commit_ends fixed owner events t left answer own (conflicts late) printed = absurd (let no_such : ⊥ = cc in no_such)
commit_ends fixed owner events t left answer own (is_shrunk none outside) printed = absurd (let no_such : ⊥ = cc in no_such)
commit_ends fixed owner events t left answer own (is_split none within apart) printed = absurd (let no_such : ⊥ = cc in no_such)
commit_ends fixed owner events t left answer own (is_damaged {key} {cause} may first) printed =
    let chunk = first.spoiled.damaged in absurd (fault_of_bytes (form_of chunk.array.info.home) chunk.bytes cause chunk.broken key printed)
commit_ends fixed owner events t left answer own (is_done n may sound) printed = absurd (let no_such : ⊥ = cc in no_such)
commit_ends fixed owner events t left answer own (is_failed n count mount part on) printed = absurd (let no_such : ⊥ = cc in no_such)
commit_ends fixed owner events t left answer own (is_wanting n count part) printed = refl

-- and of a write of its own
pub write_ends : (fixed : Fixed) (owner : ℕ) (events : History) (t : Transaction) (left : Option Transaction) (answer : Body) (own : List Numbered) (cells : ℕ) → IsCommit fixed owner events t left answer own → body_of (as_written cells answer) ≡ Memory
    → as_written cells answer ≡ body.memory
write_ends fixed owner events t left answer own cells (conflicts late) printed = absurd (let no_such : ⊥ = cc in no_such)
write_ends fixed owner events t left answer own cells (is_shrunk none outside) printed = absurd (let no_such : ⊥ = cc in no_such)
write_ends fixed owner events t left answer own cells (is_split none within apart) printed = absurd (let no_such : ⊥ = cc in no_such)
write_ends fixed owner events t left answer own cells (is_damaged {key} {cause} may first) printed =
    let chunk = first.spoiled.damaged in absurd (fault_of_bytes (form_of chunk.array.info.home) chunk.bytes cause chunk.broken key printed)
write_ends fixed owner events t left answer own cells (is_done n may sound) printed = absurd (let no_such : ⊥ = cc in no_such)
write_ends fixed owner events t left answer own cells (is_failed n count mount part on) printed = absurd (let no_such : ⊥ = cc in no_such)
write_ends fixed owner events t left answer own cells (is_wanting n count part) printed = refl
