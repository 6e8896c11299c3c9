pub mod Agreeing
pub mod Composing
pub mod Inside
pub mod Meeting
pub mod Reading
pub mod Tightening
-- names of crates below, given on to those above
pub use Rattle.index_transform.specs.Around
pub use Rattle.index_transform.specs.Bounds
pub use Rattle.index_transform.specs.Cells
pub use Rattle.index_transform.specs.Identity
pub use Rattle.index_transform.specs.Maps
pub use Rattle.index_transform.specs.Members
pub use Rattle.index_transform.specs.Transforms
pub use Rattle.index_transform.specs.Values
pub use Rattle.index_transform.specs.Walks
