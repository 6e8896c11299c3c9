pub mod Metadata
pub mod Want
pub mod Chunk
pub mod Key
pub mod Written
pub mod Described
pub mod Read
