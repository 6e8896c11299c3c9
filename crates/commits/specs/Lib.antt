pub mod Plans
pub mod Prepared
pub mod Writes
pub mod Late
pub mod Keeping
pub mod Outside
pub mod Planning
pub mod Right
pub mod Made
pub mod Refused
pub mod Ways
pub mod Keyed
pub mod Answers
pub mod Caused
-- names of crates below, given on to those above
pub use Rattle.chunk_plans.specs.Asking
pub use Rattle.chunk_plans.specs.Laying
pub use Rattle.chunk_plans.specs.Readying
pub use Rattle.chunk_plans.specs.Sorting
pub use Rattle.chunk_plans.specs.Writes as PlanWrites
pub use Rattle.chunk_plans.specs.Agreement
pub use Rattle.chunk_plans.specs.Outline
