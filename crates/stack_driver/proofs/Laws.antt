-- The laws of views that other crates rest on.
pub use Rattle.stack_driver.proofs.ArrayRules.{length-identity}
pub use Rattle.stack_driver.proofs.Kept.{cast_view, stack_view, kept}
pub use Rattle.stack_driver.proofs.Layers.{every_base, every_layer}
pub use Rattle.stack_driver.proofs.LeafTargets.{array-Stack}
pub use Rattle.stack_driver.proofs.Looks.{look-Leaf, look-Cast, look-Stack, own-Stack, own_dims}
pub use Rattle.stack_driver.proofs.Moves.{Moves, moves}
pub use Rattle.stack_driver.proofs.Renewals.{array-Leaf, array-Cast, renewed-Leaf, renewed-Cast, renewed-Stack}
pub use Rattle.stack_driver.proofs.StackRules.{layers_alike, length-stacked_dims, length-stacked_labels}
pub use Rattle.stack_driver.proofs.StackTargets.{last_targets}
-- laws of crates below, given on to those above
pub use Rattle.cast_driver.proofs.Laws.{IsWord-word_back}
pub use Rattle.transform_composition.proofs.Laws.{length-cells_of}
