pub mod Cells
pub mod Identity
pub mod Maps
pub mod Shapes
pub mod Transforms
pub mod Values
pub mod Walks
-- names of crates below, given on to those above
pub use Rattle.index_intervals.specs.Around
pub use Rattle.index_intervals.specs.Bounds
pub use Rattle.index_intervals.specs.Members
pub use Rattle.cells.specs.Places
pub use Rattle.index_intervals.specs.Edges
pub use Rattle.index_intervals.specs.Meet
