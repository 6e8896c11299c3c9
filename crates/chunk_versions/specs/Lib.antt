pub mod Moments
pub mod Versions
pub mod Reach
pub mod Marks
