pub mod Names
pub mod Homes
pub mod Answers
pub mod Opening
