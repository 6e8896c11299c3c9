pub mod Parts
pub mod Union
pub mod Finish
pub mod Files
