pub mod Added
pub mod Changes
pub mod Held
pub mod Laws
pub mod Shared
