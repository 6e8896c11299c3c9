pub mod Faults
pub mod Judged
-- names of crates below, given on to those above
pub use Rattle.json_forms.specs.Bytes
pub use Rattle.json_forms.specs.Lists
pub use Rattle.json_forms.specs.Members
pub use Rattle.json_forms.specs.Numbers
