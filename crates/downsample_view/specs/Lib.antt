pub mod Groups
pub mod Downsampled
pub mod Places
