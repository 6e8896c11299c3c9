-- names of crates below, given on to those above
pub use Rattle.state_laws.specs.Agreement
pub use Rattle.state_laws.specs.Fetches
pub use Rattle.state_laws.specs.Kept
pub use Rattle.state_laws.specs.Log
pub use Rattle.state_laws.specs.Looks
pub use Rattle.state_laws.specs.Outline
pub use Rattle.state_laws.specs.Seen
pub use Rattle.state_laws.specs.Changing
pub use Rattle.state_laws.specs.Recorded
pub use Rattle.state_laws.specs.Homes
pub use Rattle.state_laws.specs.Opening
pub use Rattle.state_laws.specs.Openings
