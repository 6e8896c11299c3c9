pub mod Refusals
pub mod Causes
pub mod Bodies
-- names of crates below, given on to those above
pub use Rattle.answer_text.specs.Status
pub use Rattle.history.specs.Alone
pub use Rattle.history.specs.Answers
pub use Rattle.history.specs.Bound
pub use Rattle.history.specs.History
pub use Rattle.history.specs.Lines
pub use Rattle.history.specs.Refs
pub use Rattle.history.specs.Staged
pub use Rattle.history.specs.Made
pub use Rattle.history.specs.Metadata
pub use Rattle.history.specs.Wants
