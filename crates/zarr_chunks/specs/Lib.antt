pub mod Metadata
pub mod Want
pub mod Key
pub mod Chunk
pub mod Written
pub mod Described
pub mod Read
-- names of crates below, given on to those above
pub use Rattle.chunk_elements.specs.Chunk as ElementChunk
pub use Rattle.chunk_elements.specs.Bytes
pub use Rattle.chunk_elements.specs.Dense
pub use Rattle.chunk_elements.specs.DtypeNames
pub use Rattle.chunk_elements.specs.Elements
pub use Rattle.chunk_elements.specs.Numbers
pub use Rattle.chunk_elements.specs.Places
pub use Rattle.chunk_elements.specs.Shapes
