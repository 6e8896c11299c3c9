pub mod Verdicts
pub mod Parts
pub mod Stated
pub mod CheckWords
pub mod CheckRuns
-- names of crates below, given on to those above
pub use Rattle.transcript_fits.specs.Cuttings
pub use Rattle.transcript_fits.specs.Keeping
pub use Rattle.transcript_fits.specs.Transcript
pub use Rattle.transcript_fits.specs.StatedOpenings as Openings
