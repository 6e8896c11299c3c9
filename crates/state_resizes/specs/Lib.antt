pub mod Conditions
pub mod Answers
pub mod Cuts
pub mod Refusals
-- names of crates below, given on to those above
pub use Rattle.chunk_plans.specs.Agreement
pub use Rattle.chunk_plans.specs.Fetches
pub use Rattle.chunk_plans.specs.Log
pub use Rattle.chunk_plans.specs.Opening
pub use Rattle.chunk_plans.specs.Openings
pub use Rattle.chunk_plans.specs.Outline
