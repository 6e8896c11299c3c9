mod CutLaws
mod SweepLaws
mod PartLaws
mod SpotLaws
mod FileLaws
mod WordLaws
mod TextLaws
pub mod Laws
