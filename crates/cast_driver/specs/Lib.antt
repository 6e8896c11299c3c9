pub mod Chain
-- names of crates below, given on to those above
pub use Rattle.cells.specs.DtypeNames
pub use Rattle.cells.specs.Shapes
