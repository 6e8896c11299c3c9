mod CommitAnswers
mod ConflictAnswers
mod ConflictLaws
mod DemandsLater
mod FetchLaws
mod FitLaws
pub mod Laws
mod NeededChunks
mod OwnLater
mod OwnLaws
mod ReadAnswers
mod Rooms
mod SeenFits
mod SeenFrom
mod TypedWords
