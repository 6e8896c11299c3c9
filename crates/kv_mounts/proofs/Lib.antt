mod Begins
mod UnionLaws
mod Together
mod Kept
mod Finishing
pub mod Laws
