-- What crates above rest on. Each law with what it says.

-- the values of each line fit its view
pub use Rattle.line_meanings.proofs.Sound.{values_fit, fitting_line}
-- no transform, step, join, Spec or line brings in an array that it wasn't given
pub use Rattle.line_meanings.proofs.KnownUnder.{under_known, moved_known, changes_within}
pub use Rattle.line_meanings.proofs.KnownJoined.{join_within}
pub use Rattle.line_meanings.proofs.KnownBuilt.{build_within}
pub use Rattle.line_meanings.proofs.Sound.{line_within}
-- with one mount's name each line is on that mount, and it is as its form gives it
pub use Rattle.line_meanings.proofs.Sound.{line_on, line_sound}
-- a view of a known array, of a cast, of a stack
pub use Rattle.line_meanings.proofs.KnownForms.{known_leaf, known_cast, known_stack}
-- steps leave a transform as many outputs as it had
pub use Rattle.line_meanings.proofs.Outputs.{applied-outputs}
-- where one mount has a name, the bytes of a line ask for stored arrays of that mount alone, and bring in no array that they weren't given
pub use Rattle.line_meanings.proofs.Forms.{bytes_of_mount}
-- and the Spec that it opens keeps the rules of Specs
pub use Rattle.line_meanings.proofs.Forms.{OpensSound, form_sound}
-- a law of a crate below, given on to those above
pub use Rattle.line_answers.proofs.Laws.{refusal_told}
