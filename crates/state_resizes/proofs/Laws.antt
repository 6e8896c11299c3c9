-- What crates above rest on.

-- what a resize answers, and the events that it adds, are a row of a session's step
pub use Rattle.state_resizes.proofs.Row.{HasRow, body_of, resize_row}
-- laws of crates below, given on to those above
pub use Rattle.chunk_plans.proofs.Laws.{array_at-outline, good_in, known-outline}
