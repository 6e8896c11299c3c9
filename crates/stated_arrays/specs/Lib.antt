pub mod Still
pub mod Outlined
pub mod Asked
pub mod Acts
pub mod Lines
pub mod Served
pub mod Stating
pub mod Openings
pub mod Outcomes
pub mod OpenedViews
-- names of crates below, given on to those above
pub use Rattle.transcript_cut.specs.Claimed
pub use Rattle.transcript_cut.specs.Cuttings
pub use Rattle.transcript_cut.specs.Keeping
pub use Rattle.transcript_cut.specs.Lines as CommandLines
pub use Rattle.transcript_cut.specs.Numbers as AnswerNumbers
pub use Rattle.transcript_cut.specs.Outline
pub use Rattle.transcript_cut.specs.Said
pub use Rattle.transcript_cut.specs.Spans
pub use Rattle.transcript_cut.specs.StatedEvents
pub use Rattle.transcript_cut.specs.Stances
pub use Rattle.transcript_cut.specs.Standings
pub use Rattle.transcript_cut.specs.Takings
pub use Rattle.transcript_cut.specs.ToldNumbers
pub use Rattle.transcript_cut.specs.Transcript
pub use Rattle.transcript_cut.specs.Unchecked
pub use Rattle.transcript_cut.specs.Homes
pub use Rattle.transcript_cut.specs.Conditions
pub use Rattle.transcript_cut.specs.Leaves
pub use Rattle.transcript_cut.specs.Built
pub use Rattle.transcript_cut.specs.StatedCommits
pub use Rattle.transcript_cut.specs.Fitting
pub use Rattle.transcript_cut.specs.Verdicts
