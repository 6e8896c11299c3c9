mod ActLaws
mod CopyLaws
mod CellLaws
mod StandingLaws
mod OpenedLaws
mod ReferenceLaws
mod PrintingLaws
mod TakenLaws
pub mod Laws
