-- What crates above rest on.

-- laws of crates below, given on to those above
pub use Rattle.read_fits.proofs.Laws.{AreBelow, failure_is, failure_number, stays, there_at, up_to-take}
pub use Rattle.read_fits.proofs.Laws.{infos_kept, own_later}
pub use Rattle.read_fits.proofs.Laws.{count_next}
pub use Rattle.read_fits.proofs.Laws.{count_more}
pub use Rattle.read_fits.proofs.Laws.{leaves_in}
