pub mod Causes
pub mod CutViews
pub mod Cuts
pub mod Dims
pub mod Emptied
pub mod Marks
