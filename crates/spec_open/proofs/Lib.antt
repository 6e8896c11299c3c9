mod Trees
mod Nesting
mod Fits
mod Rooms
mod BuiltLaws
pub mod Laws
