pub mod Ready
pub mod Usable
