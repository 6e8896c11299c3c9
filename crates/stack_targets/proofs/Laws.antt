-- The laws of leaves that other crates rest on.
pub use Rattle.stack_targets.proofs.Grounds.{ground-Leaf, ground-Cast, ground-Stack}
pub use Rattle.stack_targets.proofs.Meeting.{Meets, Agrees, agrees}
