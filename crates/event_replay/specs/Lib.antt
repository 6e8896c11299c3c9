pub mod Placed
pub mod Replays
pub mod Pieces
pub mod Demands
pub mod Sweeps
pub mod Links
-- names of crates below, given on to those above
pub use Rattle.transaction_cells.specs.Operations
pub use Rattle.transaction_cells.specs.Sites
pub use Rattle.transaction_cells.specs.Pieces as CellPieces
