pub mod Snapshot
pub mod Cache
pub mod Kept
