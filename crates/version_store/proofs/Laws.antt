-- What crates above rest on.

-- an event that opens no array: the words of a commit are put one after another, from none to all, and a failed call changes nothing
pub use Rattle.version_store.proofs.Stores.{store_begun, store_done, store_fault}
-- where words are put at cells of a chunk behind a history that is kept, there is room for them
pub use Rattle.version_store.proofs.Written.{has_room}
-- words may be put chunk by chunk, since the order of words in different chunks doesn't count
pub use Rattle.version_store.proofs.Ordered.{store_ordered}
