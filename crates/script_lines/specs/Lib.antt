pub mod Script
pub mod NestedWords
