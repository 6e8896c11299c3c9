pub mod Store
pub mod Table
pub mod Memory
pub mod Standing
pub mod Streams
pub mod MemoryStreams
pub mod Added
