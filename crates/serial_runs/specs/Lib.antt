pub mod Numbered
pub mod Runs
pub mod Attempts
pub mod Ends
pub mod Foreign
pub mod Held
pub mod Serial
pub mod Worked
-- names of crates below, given on to those above
pub use Rattle.history.specs.Made
pub use Rattle.history.specs.Wants
pub use Rattle.history.specs.Words
