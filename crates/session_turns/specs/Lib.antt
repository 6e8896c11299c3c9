pub mod Turns
pub mod Opening
pub mod Asked
pub mod Standing
pub mod Told
pub mod Failures
-- names of crates below, given on to those above
pub use Rattle.transactions.specs.Caused as CommitCauses
pub use Rattle.transactions.specs.Committing
pub use Rattle.transactions.specs.Conditions
pub use Rattle.transactions.specs.Faults
pub use Rattle.transactions.specs.Reading
pub use Rattle.transactions.specs.Recording
pub use Rattle.transactions.specs.Turns as TxnTurns
pub use Rattle.transactions.specs.Txn
pub use Rattle.state_resizes.specs.Answers
pub use Rattle.transactions.specs.Answers as CommitAnswers
pub use Rattle.line_acts.specs.Bodies
pub use Rattle.line_acts.specs.Causes
pub use Rattle.state_resizes.specs.Conditions as ResizeConditions
pub use Rattle.line_acts.specs.Refusals
pub use Rattle.line_acts.specs.Status
pub use Rattle.state_resizes.specs.Agreement
pub use Rattle.state_resizes.specs.Outline
pub use Rattle.state_resizes.specs.Fetches
pub use Rattle.state_resizes.specs.Openings
pub use Rattle.state_resizes.specs.Log
pub use Rattle.line_acts.specs.Changes
pub use Rattle.line_acts.specs.Form
pub use Rattle.line_acts.specs.Joins
pub use Rattle.line_acts.specs.Meanings
pub use Rattle.line_acts.specs.Numbers
pub use Rattle.line_acts.specs.Openings as MeaningOpenings
pub use Rattle.line_acts.specs.Ranks
