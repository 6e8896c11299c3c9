-- What crates above rest on.

-- what is printed of metadata is no conflict
pub use Rattle.session_openings.proofs.RefusalLaws.{metadata_no_conflict}
-- laws of crates below, given on to those above
pub use Rattle.sessions.proofs.Laws.{names_then, passed_alone, passed_then, refusal, told_alone, told_without, refusal_told, asked_then, later_refs, none_added, on_ok_any, opens_given, opens_stored, passed_of_turn, recorded_begun, recorded_later, recorded_read, recorded_written, txn_later}
pub use Rattle.sessions.proofs.Laws.{drop_front, own-append, own-none, same_rest}
pub use Rattle.sessions.proofs.Laws.{bytes_of_mount}
pub use Rattle.sessions.proofs.Laws.{IsPlainAsked, alone_caused, alone_tells, commit_ends, damage_no_conflict, plain_abort, plain_caused, plain_begin, plain_join, plain_resolve, plain_view, refused_caused, sound_later, told_tells_none, write_ends}
