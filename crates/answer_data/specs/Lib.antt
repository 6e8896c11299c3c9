pub mod Lines
pub mod Causes
pub mod Members
pub mod Answers
pub mod Printable
-- names of crates below, given on to those above
pub use Rattle.answer_text.specs.Nested
pub use Rattle.answer_text.specs.Pieces
pub use Rattle.answer_text.specs.Text
pub use Rattle.answer_text.specs.Nodes
pub use Rattle.answer_text.specs.Specs
pub use Rattle.answer_text.specs.Conditions
pub use Rattle.answer_text.specs.Leaves
pub use Rattle.answer_text.specs.Built
