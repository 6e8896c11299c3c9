-- The laws of lists of selectors that other crates rest on.
pub use Rattle.step_forms.proofs.Gathered.{Gathered, gathered_more}
pub use Rattle.step_forms.proofs.Ranges.{positions_more}
