-- What crates above rest on.

-- what is kept of a chunk of a new array is right, where its words are: the fill at each place, or those of a local array
pub use Rattle.version_laws.proofs.Openings.{HaveNewWords, new_versions, stored_words, local_words}
-- it stays right behind an event that doesn't touch the chunk and leaves its array
pub use Rattle.version_laws.proofs.Later.{newest_low, untouched_versions}
-- a commit that is one event: its words are put, those in the chunk and those elsewhere, and then what is kept is right behind it
pub use Rattle.version_laws.proofs.Puts.{part_begun, part_low, part_put, part_elsewhere, part_done}
-- a mark that is found is a moment at which the history shows the cells of a read, and where there is none it never does
pub use Rattle.version_laws.proofs.Shown.{mark_shown, never_shown}
-- the test of two places in a chunk is that of the cells
pub use Rattle.version_laws.proofs.Cells.{same_places}
