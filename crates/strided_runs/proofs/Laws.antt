-- The laws of runs and their pairs that other crates rest on.
pub use Rattle.strided_runs.proofs.GrowingLaws.{grown_of-more, next, runs-grown_of, some-fold, up_to-later, up_to-more}
pub use Rattle.strided_runs.proofs.GrowingLines.{first-longer, follows, longer-more, second}
pub use Rattle.strided_runs.proofs.RangeLaws.{range-split}
