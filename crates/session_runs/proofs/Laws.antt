-- What crates above rest on. Each law with what it says.

-- a session that is given one line more, and a blank one
pub use Rattle.session_runs.proofs.StepLaws.{session_next, session_blank, session_first}
-- each conflict among answers for causes is with another session, as far as was seen
pub use Rattle.session_runs.proofs.Foreign.{IsForeignSeen, caused_foreign}
-- laws of crates below, given on to those above
pub use Rattle.session_openings.proofs.Laws.{drop_front, own-append, own-none, same_rest, bytes_of_mount, asked_then, later_refs, none_added, on_ok_any, opens_given, opens_stored, passed_alone, passed_of_turn, recorded_begun, recorded_later, recorded_read, recorded_written, txn_later}
