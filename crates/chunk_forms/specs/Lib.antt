pub mod Grammar
pub mod Words
pub mod Names
pub mod Metadata
pub mod Wants
pub mod Made
pub mod Members
pub mod Answers
-- names of crates below, given on to those above
pub use Rattle.zarr_chunks.specs.Key as ZarrKey
pub use Rattle.zarr_chunks.specs.Read as ZarrRead
pub use Rattle.n5_blocks.specs.Block
pub use Rattle.n5_blocks.specs.Faults
pub use Rattle.n5_blocks.specs.Key as N5Key
pub use Rattle.n5_blocks.specs.Read as N5Read
pub use Rattle.zarr3_chunks.specs.Key as Zarr3Key
pub use Rattle.zarr3_chunks.specs.Read as Zarr3Read
pub use Rattle.zarr_chunks.specs.Want
pub use Rattle.n5_blocks.specs.Want as N5Want
pub use Rattle.zarr3_chunks.specs.Want as Zarr3Want
