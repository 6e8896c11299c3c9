pub mod MetadataLaws
pub mod TypeLaws
pub mod ReadLaws
pub mod Laws
