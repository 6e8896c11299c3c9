pub mod Workers
pub mod Runs
pub mod Caused
pub mod Foreign
pub mod Alone
pub mod MountRuns
pub mod Finished
-- names of crates below, given on to those above
pub use Rattle.session_runs.specs.Bodies
