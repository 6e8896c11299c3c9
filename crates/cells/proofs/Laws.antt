-- The laws of tests, words, places, shapes and runs that other crates rest on.
pub use Rattle.cells.proofs.Backwards.{IsInside-reverse, c_place-reverse, cell_count-reverse, f_place-reverse}
pub use Rattle.cells.proofs.ByteLaws.{IsWord-word_of_bytes, length-word_bytes, word_bytes-word_of_bytes, word_of_bytes-word_bytes}
pub use Rattle.cells.proofs.DtypeLaws.{dtype_name-dtype_named, dtype_named-dtype_name}
pub use Rattle.cells.proofs.IndexVectors.{index_vectors-places, length-index_vectors}
pub use Rattle.cells.proofs.NumberLaws.{IsConverted-conv_word, IsConverted-unique, IsWord-conv_word, IsWord-word_of, number_of-word_of, same_from_number, word_of-number_of}
pub use Rattle.cells.proofs.PlaceLaws.{IsInside-c_index, IsInside-f_index, IsInside-length, c_index-c_place, c_place-c_index, c_place-lt, cell_count-pos, f_place-f_index, f_place-lt, place_of-lt}
pub use Rattle.cells.proofs.PlaceSteps.{c_place-bound, c_place-step}
pub use Rattle.cells.proofs.ShapeLaws.{IsChunkShape-from_test, IsInside-from_test, IsShape-from_test, test-IsChunkShape, test-IsInside, test-IsShape}
pub use Rattle.cells.proofs.TestLaws.{both, both_false, both_true, either, either_false, either_true, else_from, equal_or_not, first_pairs-all, get_or-pairs_of, length-pairs_of, less_or_not, list_all-at, list_all-from, not_both, not_true, ok_from_else, ok_from_then, pairs_of-more, same_test, second_true, some_from_then, then_from, true_or_false}
