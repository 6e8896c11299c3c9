pub mod Slid
pub mod Placed
pub mod Refusals
pub mod Joins
