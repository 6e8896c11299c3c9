-- What crates above rest on.

-- laws of crates below, given on to those above
pub use Rattle.state_laws.proofs.Laws.{decoded_damaged, form_fill, form_stored, frame_same, frame_then, generation_now, good_in, one_chunk_in, stay_in, known-outline, look_answered, looked_events, not_risen, read_then, taken_shape, takes_chunk, together-keys}
pub use Rattle.state_laws.proofs.Outline.{array_at-outline}
