pub mod Words
pub mod Blocks
pub mod Chunk
pub mod Rows
pub mod Planes
-- names of crates below, given on to those above
pub use Rattle.cells.specs.Bytes
pub use Rattle.cells.specs.Elements
pub use Rattle.cells.specs.Items
pub use Rattle.cells.specs.Numbers
pub use Rattle.cells.specs.Places
pub use Rattle.cells.specs.Shapes
pub use Rattle.cells.specs.Dense
pub use Rattle.cells.specs.DtypeNames
