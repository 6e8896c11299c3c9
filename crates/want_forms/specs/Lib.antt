pub mod Asking
pub mod Sizes
pub mod Zarr
pub mod N5
pub mod Zarr3
pub mod Wants
-- names of crates below, given on to those above
pub use Rattle.chunk_forms.specs.Made
pub use Rattle.chunk_forms.specs.Wants as FormWants
