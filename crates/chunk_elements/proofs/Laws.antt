-- The laws of elements and of chunks that other crates rest on.
pub use Rattle.chunk_elements.proofs.BlockLaws.{AreStored-words_of_rows}
pub use Rattle.chunk_elements.proofs.FitLaws.{Fit, IsWord-zero, cell_count-within, fit_from_within, within-same, within_from_fit}
pub use Rattle.chunk_elements.proofs.PartLaws.{bytes_of_part, small-drop}
pub use Rattle.chunk_elements.proofs.RowLaws.{inside-fit, length-rows}
pub use Rattle.chunk_elements.proofs.ChunkLaws.{chunk_cells, SpellsChunk-from_len, SpellsChunk-from_c, SpellsChunk-from_f, SpellsChunk-from_items}
-- laws of crates below, given on to those above
pub use Rattle.cells.proofs.Laws.{ok_from_then, then_from}
pub use Rattle.cells.proofs.Laws.{IsWord-word_of_bytes, c_place-lt, cell_count-pos, dtype_name-dtype_named, dtype_named-dtype_name, else_from, length-word_bytes, ok_from_else, word_of_bytes-word_bytes}
pub use Rattle.cells.proofs.Laws.{true_or_false}
pub use Rattle.cells.proofs.Laws.{IsInside-from_test, test-IsInside}
