pub mod Resized
pub mod Behind
pub mod Laid
pub mod Rows
