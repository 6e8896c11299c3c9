pub mod SaidAnswers
pub mod Standings
pub mod Acts
pub mod Printing
-- names of crates below, given on to those above
pub use Rattle.stated_arrays.specs.AnswerNumbers
pub use Rattle.stated_arrays.specs.Claimed
pub use Rattle.stated_arrays.specs.Cuttings
pub use Rattle.stated_arrays.specs.Keeping
pub use Rattle.stated_arrays.specs.Openings
pub use Rattle.stated_arrays.specs.Outcomes
pub use Rattle.stated_arrays.specs.Outline
pub use Rattle.stated_arrays.specs.Outlined
pub use Rattle.stated_arrays.specs.Said
pub use Rattle.stated_arrays.specs.Spans
pub use Rattle.stated_arrays.specs.Stances
pub use Rattle.stated_arrays.specs.StatedEvents
pub use Rattle.stated_arrays.specs.Stating
pub use Rattle.stated_arrays.specs.Takings
pub use Rattle.stated_arrays.specs.ToldNumbers
pub use Rattle.stated_arrays.specs.Transcript
pub use Rattle.stated_arrays.specs.Unchecked
pub use Rattle.line_acts.specs.Bound
pub use Rattle.script_lines.specs.Script
pub use Rattle.stated_arrays.specs.Standings as ToldStandings
pub use Rattle.line_acts.specs.Openings as SpecOpenings
pub use Rattle.stated_arrays.specs.Built
pub use Rattle.stated_arrays.specs.Conditions
pub use Rattle.stated_arrays.specs.Leaves
pub use Rattle.stated_arrays.specs.Homes
pub use Rattle.stated_arrays.specs.Asked
pub use Rattle.stated_arrays.specs.Lines
pub use Rattle.stated_arrays.specs.Still
pub use Rattle.stated_arrays.specs.StatedCommits
pub use Rattle.stated_arrays.specs.OpenedViews
pub use Rattle.stated_arrays.specs.Fitting
pub use Rattle.stated_arrays.specs.Verdicts
