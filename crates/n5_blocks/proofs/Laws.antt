-- The laws of blocks of N5 that other crates rest on.
pub use Rattle.n5_blocks.proofs.BlockLaws.{SpellsBlock-from_no_fault}
pub use Rattle.n5_blocks.proofs.SpellingLaws.{no_fault-SpellsBlock, parsed}
