mod Loops
mod Pushed
mod Sums
pub mod Lengths
pub mod Laws
