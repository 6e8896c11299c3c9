pub mod Bounds
pub mod Members
pub mod Around
pub mod Edges
pub mod Meet
pub mod Shift
pub mod Stride
pub mod Slice
