pub mod Reading
pub mod Places
pub mod Asking
pub mod Writing
pub mod Putting
pub mod Standing
