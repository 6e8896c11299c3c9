pub mod Asked
pub mod Promises
pub mod Stores
pub mod Parts
pub mod Words
