pub mod Faults
pub mod Paths
pub mod Members
pub mod Kvstores
pub mod Stored
pub mod Numbers
pub mod Leaves
-- names of crates below, given on to those above
pub use Rattle.want_forms.specs.FormWants
pub use Rattle.want_forms.specs.Asking
pub use Rattle.want_forms.specs.Sizes
pub use Rattle.want_forms.specs.Wants
pub use Rattle.want_forms.specs.Zarr
