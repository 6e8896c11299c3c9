pub mod Pieces
pub mod Nested
pub mod Causes
pub mod Text
pub mod Status
-- names of crates below, given on to those above
pub use Rattle.spec_open.specs.Nodes
pub use Rattle.spec_open.specs.Specs
pub use Rattle.spec_open.specs.Conditions
pub use Rattle.spec_open.specs.Leaves
pub use Rattle.spec_open.specs.Built
