pub mod Landings
pub mod Buffers
pub mod Axes
pub mod Numberings
