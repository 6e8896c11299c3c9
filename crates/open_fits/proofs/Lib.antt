mod Outcomes
mod Fronts
mod Settled
mod Named
mod Walked
mod Judging
mod BuiltLaws
mod RefusalLaws
mod AskingLaws
mod FitLaws
mod Ends
mod Opened
pub mod Laws
