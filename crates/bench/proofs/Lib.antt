pub mod WholeLaws
mod CommitLaws
