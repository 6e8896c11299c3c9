-- The laws of laid and cut chunks that crates above rest on.
pub use Rattle.chunk_laying.proofs.CoverLaws.{covered-places, places-covered}
pub use Rattle.chunk_laying.proofs.SnapshotLaws.{IsStagedBy, snapshot_of_covered, snapshot_of_cut, snapshot_of_laid, snapshot_same}
pub use Rattle.chunk_laying.proofs.BareLaws.{bare-places, places-bare}
