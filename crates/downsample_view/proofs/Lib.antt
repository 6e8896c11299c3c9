pub mod Offsets
pub mod Rows
pub mod Cells
pub mod Filling
pub mod Lists
pub mod Reached
