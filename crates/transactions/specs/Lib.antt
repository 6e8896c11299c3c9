-- what a pass has seen, and what a turn does to it
pub use Rattle.chunk_fetches.specs.Turns
pub mod Txn
pub mod Faults
pub mod Conditions
pub mod Recording
pub mod Committing
pub mod Marking
pub mod Preparing
pub mod Had
pub mod Strays
pub mod Reading
pub mod Keeping
-- names of crates below, given on to those above
pub use Rattle.commits.specs.Answers
pub use Rattle.commits.specs.Caused
pub use Rattle.commits.specs.Agreement
pub use Rattle.commits.specs.Outline
