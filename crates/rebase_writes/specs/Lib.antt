pub mod Staged
pub mod Runs
pub mod Rising
pub mod Marks
