-- What scripts and logs are, as crates above use it.
pub use Rattle.script_streams.proofs.Texts.{one_text, never_missing, never_passed}
