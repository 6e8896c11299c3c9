mod Slashes
mod Rows
mod GivenLaws
pub mod Laws
