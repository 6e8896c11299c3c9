pub mod Ready
pub mod Usable
pub mod Resizable
