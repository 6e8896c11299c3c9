mod Asking
mod Single
mod Ran
mod Verdict
mod Written
mod PartLaws
