pub mod Names
pub mod Parts
pub mod Within
-- names of crates below, given on to those above
pub use Rattle.spec_forms.specs.Faults
pub use Rattle.spec_forms.specs.Kvstores
pub use Rattle.spec_forms.specs.Members
pub use Rattle.spec_forms.specs.Stored
pub use Rattle.spec_forms.specs.Asking
pub use Rattle.spec_forms.specs.Sizes
pub use Rattle.spec_forms.specs.Wants
pub use Rattle.spec_forms.specs.Zarr
pub use Rattle.spec_forms.specs.Leaves
