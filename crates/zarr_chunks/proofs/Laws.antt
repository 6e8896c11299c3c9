-- What crates above rest on.

-- laws of crates below, given on to those above
pub use Rattle.chunk_elements.proofs.Laws.{IsWord-zero, SpellsChunk-from_len}
pub use Rattle.chunk_elements.proofs.Laws.{IsInside-from_test, c_place-lt, cell_count-pos, else_from, ok_from_then, test-IsInside, true_or_false, word_of_bytes-word_bytes}
