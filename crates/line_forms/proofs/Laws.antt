-- What crates above rest on.

-- laws of crates below, given on to those above
pub use Rattle.spec_open.proofs.Laws.{among-keeps, plan_sound}
