-- What crates above rest on. Each law with what it says.

-- arrays that were opened as a history may stay as others follow
pub use Rattle.chunk_fetches.proofs.GrowLaws.{grows_in, keeps_front}
-- what holds of the error of an answer
pub use Rattle.chunk_fetches.proofs.AnswerLaws.{if_ok_two, err_and}
-- behind a turn a pass rests, and has seen events that may have happened
pub use Rattle.chunk_fetches.proofs.TurnLaws.{has_turned, past_of, itself_is, failed_adds}
-- places of pieces that are to be fetched
pub use Rattle.chunk_fetches.proofs.LooksLaws.{no_piece}
-- an id is that of a chunk; passes from one turn to the next
pub use Rattle.chunk_fetches.proofs.FetchLaws.{IsNamed, if_ok_map, if_err_map, passed_turned, passed_twice, prefix_on}
-- laws of crates below, given on to those above
pub use Rattle.shared_state.proofs.Laws.{good_in, known-outline}
pub use Rattle.transaction_cells.proofs.Laws.{IsSiteIn, alike_in, can_stage, count_of, found-insert, inside_in_chunk, known_sites, leaves_among, named_cells, needs_unwritten, none_staged, outside_of_view, same_chunk, staged_cell, staged_later}
