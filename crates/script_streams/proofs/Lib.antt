mod Texts
mod Asked
mod Pieces
mod Given
pub mod Laws
