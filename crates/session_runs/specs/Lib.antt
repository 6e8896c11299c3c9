pub mod Causes
pub mod Session
pub mod Scripts
-- names of crates below, given on to those above
pub use Rattle.session_openings.specs.Turns
pub use Rattle.session_openings.specs.Failures
pub use Rattle.session_openings.specs.Answers
pub use Rattle.session_openings.specs.Meanings
pub use Rattle.session_openings.specs.Txn
pub use Rattle.session_openings.specs.TxnTurns
pub use Rattle.session_openings.specs.Bodies
pub use Rattle.session_openings.specs.Committing
pub use Rattle.session_openings.specs.Conditions
pub use Rattle.session_openings.specs.Opening
pub use Rattle.session_openings.specs.Reading
pub use Rattle.session_openings.specs.Recording
