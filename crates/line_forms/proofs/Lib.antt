mod Factors
mod Sound
pub mod Laws
