pub mod WalkLaws
pub mod OpenLines
pub mod LineLaws
pub mod SourceLaws
pub mod KeptLaws
pub mod PutLaws
pub mod StatedLaws
pub mod Laws
