-- The words that arrays have when they are opened.
use Rattle.std.specs.Prelude.{ℕ, List, Option, Some, None, slice_index, if◌then◌else◌}
use Rattle.std.specs.FinMap as finmap
use Rattle.cells.specs.Dense.{DenseCells}
use Rattle.cells.specs.Places.{c_place}
use Rattle.kv_face.specs.Store.{Contents}
use Rattle.chunk_forms.specs.Words.{is_inside, stored_word}
use Rattle.stack_driver.specs.Targets.{Cell}
use Rattle.history.specs.declared.array.Home.{Home}
use Rattle.history.specs.declared.array.Home.TheVariants.{Zarr, N5, Zarr3, Local}
use Rattle.history.specs.Arrays.{Known, chunk_shape, form_of}
use Rattle.history.specs.Chunks.{chunk_index, within_chunk, chunk_key}

-- a local array's word; it has none past its shape
abbrev pub dense_word : DenseCells → List ℕ → Option ℕ
dense_word cells index = if is_inside cells.shape index then Some (slice_index cells.words (c_place cells.shape index)) else None

-- what the bytes of the cell's chunk at the start say, or the fill where there are none
abbrev pub word_at_start : Contents → Known → Cell → Option ℕ
word_at_start start k x =
    stored_word (form_of k.info.home) k.info.fill (finmap.get start (chunk_key k (chunk_index (chunk_shape k.info) x.index))) (within_chunk (chunk_shape k.info) x.index)

-- a stored array has the word of the bytes at the start, and a local one its own
abbrev pub opening_word_in : Contents → Known → Home → Cell → Option ℕ
opening_word_in start k (Zarr mount path meta) x = word_at_start start k x
opening_word_in start k (N5 mount path meta) x = word_at_start start k x
opening_word_in start k (Zarr3 mount path meta) x = word_at_start start k x
opening_word_in start k (Local cells) x = dense_word cells x.index

-- the word that an array has at a cell when it is opened; none where the chunk's bytes are damaged
abbrev pub opening_word : Contents → Known → Cell → Option ℕ
opening_word start k x = opening_word_in start k k.info.home x
