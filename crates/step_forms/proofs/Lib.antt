pub mod Chosen
pub mod Flags
pub mod Gathered
pub mod GivenLaws
pub mod Ranges
pub mod Repeats
pub mod StepLists
pub mod Laws
