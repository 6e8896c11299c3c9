-- What crates above rest on.

-- laws of crates below, given on to those above
pub use Rattle.transaction_cells.proofs.WrittenLaws.{site_with}
pub use Rattle.transaction_cells.proofs.Laws.{known_sites}
