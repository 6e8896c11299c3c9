pub mod CacheLaws
pub mod CallerLaws
pub mod FittingLaws
pub mod KeptLaws
pub mod Laws
