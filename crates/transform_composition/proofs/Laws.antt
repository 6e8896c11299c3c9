-- The laws of tightened and composed transforms that other crates rest on.

-- what tightening answers, part by part
pub use Rattle.transform_composition.proofs.AgreeLemmas.{IsTightened, IsTightened-of}
-- a composition has the outer value at the inner value, and a tightened transform its old one
pub use Rattle.transform_composition.proofs.AgreeLemmas.{Agrees-composed, values-tightened}
-- the cells of a tightened or composed finite domain go into the outer one
pub use Rattle.transform_composition.proofs.AgreeLemmas.{GoesInto-tight, GoesInto-tightened, GoesInto-composed}
-- each bound that was open is the meet's
pub use Rattle.transform_composition.proofs.MeetingLemmas.{AreMet-tight, AreMet-tightened}
-- no index vector is lost
pub use Rattle.transform_composition.proofs.ReachLemmas.{KeepsReached-tight, KeepsReached-tightened, KeepsComposed-joined}
-- to compose with the identity is to tighten
pub use Rattle.transform_composition.proofs.IdentityLemmas.{composed-identity}
-- a map that lies inside has a value inside, and where none is outside all lie inside
pub use Rattle.transform_composition.proofs.FiniteLemmas.{value-inside, all-inside}
-- maps fit tightened dimensions, explicit finite bounds stay, and values stay between bounds
pub use Rattle.transform_composition.proofs.FitLemmas.{maps-tight, tight-fixed}
pub use Rattle.transform_composition.proofs.ValueLemmas.{values-tight}
-- laws of crates below, given on to those above
pub use Rattle.index_transform.proofs.Laws.{length-cells_of, list_all-position_from}
pub use Rattle.index_transform.proofs.Laws.{between_down, between_up, get_or-inside}
