-- What crates above rest on. Each law with what it says; where it stands, it has its premises.

-- what is left of a stored chunk is what is kept of it behind the commit, and its cells are the chunk then
pub use Rattle.chunk_plans.proofs.Kept.{chunk_told, fill_told, held_longer, held_snapshot, kept_of_bytes, left_longer, right_of_left, shape_told}
-- the cells of a local array are its chunk behind the commit
-- both stay right while no event touches the chunk
-- words that are staged by an array's form, as a state tells it, are a write
pub use Rattle.chunk_plans.proofs.Forms.{dtype_told, kept_as, valid_chunks, valid_ranks, write_by_form}
-- the bytes of a stored chunk's words are what is kept of it
-- what the form of a stored array, with some shape, says of the array
-- what is laid of a chunk that reaches into its array's shape may be written, and its bytes are what is left of it
pub use Rattle.chunk_plans.proofs.LeftLaws.{IsLaidBy, laid_of, may_write, is_left}
-- a chunk that was fetched changes the cache alone
pub use Rattle.chunk_plans.proofs.Same.{same_log, same_by, settled_same, fetched_same}
-- of two bytes, or two keys, one stands before the other, or they are the same
pub use Rattle.chunk_plans.proofs.KeyOrder.{same_byte, same_text}
-- prepared bytes that a later commit may use are what it leaves of the chunk
pub use Rattle.chunk_plans.proofs.ReadyLaws.{ready_right}
-- what was told of a chunk is what preparing its bytes asks
pub use Rattle.chunk_plans.proofs.UnderLaws.{may_ready}
-- what stands in the order of distinct keys rises
pub use Rattle.chunk_plans.proofs.SortLaws.{rising_sorted}
-- an error that is handed on is the one that was met
pub use Rattle.chunk_plans.proofs.Same.{err_told}
-- laws of crates below, given on to those above
pub use Rattle.chunk_laying.proofs.Laws.{IsStagedBy, snapshot_of_cut}
pub use Rattle.shared_state.proofs.Laws.{array_at-outline, decoded_damaged, form_fill, form_stored, frame_same, frame_then, good_in, known-outline, look_answered, not_risen, one_chunk_in, read_then, stay_in, taken_shape, takes_chunk, together-keys}
