pub mod Refused
pub mod Bound
pub mod Ranks
-- names of crates below, given on to those above
pub use Rattle.line_meanings.specs.Bodies
pub use Rattle.line_meanings.specs.Causes
pub use Rattle.line_meanings.specs.Changes
pub use Rattle.line_meanings.specs.Form
pub use Rattle.line_meanings.specs.Joins
pub use Rattle.line_meanings.specs.Meanings
pub use Rattle.line_meanings.specs.Numbers
pub use Rattle.line_meanings.specs.Openings
pub use Rattle.line_meanings.specs.Refusals
pub use Rattle.line_meanings.specs.Status
