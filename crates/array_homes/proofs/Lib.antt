pub mod NumberLaws
pub mod NameLaws
pub mod ReadingLaws
pub mod Laws
