pub mod Growing
pub mod Loops
pub mod Runs
