pub mod FirstLine
pub mod LineLaws
pub mod Nesting
pub mod GivenWords
