pub mod Touches
pub mod Cells
pub mod Openings
pub mod Later
pub mod Puts
pub mod Shown
pub mod Laws
