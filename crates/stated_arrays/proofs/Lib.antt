pub mod LeafLaws
pub mod StepLaws
pub mod TableLaws
pub mod Walking
pub mod Next
pub mod Exact
pub mod Meanings
pub mod Kept
pub mod Bridge
pub mod Claims
pub mod Told
pub mod OutcomeLaws
mod WordLaws
mod PairLaws
pub mod Laws
