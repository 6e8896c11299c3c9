pub mod Openings
pub mod Ids
pub mod Stores
pub mod Opened
pub mod Putting
pub mod Asked
pub mod Ordered
-- names of crates below, given on to those above
pub use Rattle.version_laws.specs.Kept
pub use Rattle.version_laws.specs.Shown
