-- What crates above rest on.

-- laws of crates below, given on to those above
pub use Rattle.transcript_fits.proofs.Laws.{sessions_within}
