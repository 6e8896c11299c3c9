mod DeepTexts
mod Plain
mod ReadBack
mod OneAnswer
mod Walls
mod StoredPuts
pub mod Laws
