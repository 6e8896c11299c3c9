-- What crates above rest on. Each law with what it says; where it stands, it has its premises.

-- a state without events agrees with its own opening
pub use Rattle.state_laws.proofs.Begun.{agrees_begun, log_begun}
-- one frame behind another, one reading behind another; no call
pub use Rattle.state_laws.proofs.Later.{frame_then, read_then}
pub use Rattle.state_laws.proofs.Leafs.{frame_same}
-- a state agrees with its opening behind a call of the store that changed nothing, behind one that failed, behind a look that may have
pub use Rattle.state_laws.proofs.Got.{agrees_quiet, agrees_read, agrees_got}
pub use Rattle.state_laws.proofs.Later.{agrees_fault}
-- a count that didn't rise is no greater
pub use Rattle.state_laws.proofs.Later.{not_risen}
-- a store that takes an array's mount takes the keys of its chunks
pub use Rattle.state_laws.proofs.Got.{takes_chunk}
-- the generation that the table tells is the chunk's
pub use Rattle.state_laws.proofs.Cached.{generation_now}
-- what is kept of a chunk is the chunk as it is; a look into the cache and a chunk that was settled keep the agreement
pub use Rattle.state_laws.proofs.Cached.{answered_some, agrees_looked, agrees_settled}
-- the form of a look is that of a stored array, and its fill is a word
pub use Rattle.state_laws.proofs.Filled.{form_stored, form_fill}
-- what bytes under a chunk's key decode to is the chunk as it is; where they are no chunk, they were none at the start
pub use Rattle.state_laws.proofs.Filled.{decoded_answered, decoded_damaged}
-- a chunk's cells may be settled at once
pub use Rattle.state_laws.proofs.Filled.{answered_may}
-- what the bytes of a look decode to is the chunk as it is
pub use Rattle.state_laws.proofs.Settling.{look_answered}
-- cells that were a chunk's may be settled for as long as a state agrees with the same opening
pub use Rattle.state_laws.proofs.Settling.{answered_later}
-- a look into the cache adds no event
pub use Rattle.state_laws.proofs.Settling.{looked_events}
-- what a look into the table of locations tells: an array of the history, or a free location
pub use Rattle.state_laws.proofs.Located.{there_of, free_of}
-- what the store has below a free location is what the outcome of a leaf asks for
pub use Rattle.state_laws.proofs.Leafs.{outcome_of}
-- an array that was found, or made, enters the run
pub use Rattle.state_laws.proofs.Leafs.{agrees_found, agrees_made}
-- and a local one
pub use Rattle.state_laws.proofs.Given.{agrees_given}
-- references of new arrays keep the rules
pub use Rattle.state_laws.proofs.Fresh.{reference_new}
pub use Rattle.state_laws.proofs.Given.{reference_given}
-- a number below the count of arrays is one of them
pub use Rattle.state_laws.proofs.Asked.{known_test, test_known}
-- an index is one of a chunk by the array's home
pub use Rattle.state_laws.proofs.Asked.{index_from, index_into}
-- places of the table lie apart, and are of the history's arrays
pub use Rattle.state_laws.proofs.Keyed.{of_table, places_apart}
-- which array a key tells: by the number in it, by the place above it, or none
pub use Rattle.state_laws.proofs.Keyed.{local_some, local_none, stored_some, not_named, nothing_above, key_known}
-- behind a commit, and behind a new shape, a state agrees with each opening by which it was right
pub use Rattle.state_laws.proofs.Committed.{agrees_deed}
pub use Rattle.state_laws.proofs.Reshaped.{agrees_shape}
-- where the outline is legal, no two chunks have one key, and arrays stay as they were opened
pub use Rattle.state_laws.proofs.Outline.{one_chunk_in, stay_in}
-- a history and its outline have the same arrays, each as its metadata or its cells say
pub use Rattle.state_laws.proofs.Outline.{known-outline, good_in}
-- changes go together where their keys do
pub use Rattle.state_laws.proofs.OneCall.{together-keys}
-- laws of crates below, given on to those above
pub use Rattle.array_homes.proofs.Laws.{taken_shape}
pub use Rattle.array_homes.proofs.Laws.{known_reference, known_shaped}
pub use Rattle.history.proofs.Laws.{generation_by_table, none_is_none, not_taken_by_table, some_inj, table_none, table_opened, taken_by_table}
