pub mod Lists
pub mod Slides
pub mod SlidLaws
pub mod Apart
pub mod Placings
pub mod PlacedLaws
pub mod Joinings
pub mod Steps
