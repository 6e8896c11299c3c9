pub mod Nodes
pub mod Specs
pub mod Conditions
pub mod Built
-- names of crates below, given on to those above
pub use Rattle.spec_forms.specs.Leaves
