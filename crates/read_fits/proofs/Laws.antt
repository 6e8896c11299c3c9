-- What crates above rest on.

-- the tables of arrays tell how each was opened
pub use Rattle.read_fits.proofs.FetchLaws.{infos_kept}
-- what a transaction has at a number of events it has at each later one
pub use Rattle.read_fits.proofs.OwnLater.{own_later}
-- the answers that a commit may have, and the one conflict that a text tells
pub use Rattle.read_fits.proofs.CommitAnswers.{commit_answered, conflict_answered}
-- laws of crates below, given on to those above
pub use Rattle.line_fits.proofs.Laws.{AreUnresized, IsUnresized, lies_here, stays, stays_more, stays_step, stays_until, there_at, unresized_back}
pub use Rattle.stated_arrays.proofs.Laws.{array_at-outline, count-outline, known-outline, known_reference, length-outline, location_new, made_stored, outline-more, outline_opening, pairs_of, places_apart, reference_given}
pub use Rattle.line_fits.proofs.Laws.{AreBelow, failure_is, failure_number, up_to-take}
pub use Rattle.line_fits.proofs.Laws.{count_next}
pub use Rattle.version_store.proofs.Stores.{count_more}
pub use Rattle.transaction_cells.proofs.Laws.{leaves_in}
