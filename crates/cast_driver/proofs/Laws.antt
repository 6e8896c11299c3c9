-- The laws of chains of casts that other crates rest on.
pub use Rattle.cast_driver.proofs.ChainLaws.{AreJoined-push, BeginsWith-push, dtype_after-push, IsWord-word_back}
-- laws of crates below, given on to those above
pub use Rattle.cells.proofs.Laws.{both, both_false, both_true, dtype_named-dtype_name, else_from, then_from}
