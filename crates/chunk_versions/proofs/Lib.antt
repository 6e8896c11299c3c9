pub mod Counts
pub mod Chains
pub mod Candidates
pub mod Judging
pub mod Words
pub mod Found
pub mod Laws
