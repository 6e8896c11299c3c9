pub mod UnreadLaws
pub mod MetadataLaws
pub mod OtherLaws
pub mod ReadLaws
pub mod PassLaws
