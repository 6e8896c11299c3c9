-- The laws of texts that other crates rest on.
pub use Rattle.locations.proofs.Texts.{cmp, same_byte, behind, equal_texts, begins_split, begins_whole, longer}
