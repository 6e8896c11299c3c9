-- What crates above rest on. Each law with what it says.

-- a transaction that is sound stays so as others' events follow
pub use Rattle.sessions.proofs.CommitRows.{sound_later}
-- a commit, and a write of its own, that are printed as want of memory are answered so
pub use Rattle.sessions.proofs.EndLaws.{commit_ends, write_ends}
-- a line that looks at no store, one that takes no turn, and one that is refused before it takes one, are answered for their causes
pub use Rattle.sessions.proofs.CauseLaws.{alone_caused, plain_caused, refused_caused}
-- what is printed of damage is no conflict
pub use Rattle.sessions.proofs.CauseLaws.{damage_no_conflict}
-- what a plain line tells of failed calls: none
pub use Rattle.sessions.proofs.PlainLines.{alone_tells, told_tells_none, plain_view, plain_join, plain_begin, plain_abort, plain_resolve, IsPlainAsked}
-- laws of crates below, given on to those above
pub use Rattle.session_turns.proofs.Laws.{IsThere, added_then, adds_none, answer_at, asked_then, build_within, bytes_of_mount, if_err_map, if_ok_both, if_ok_map, kept_bound, later_refs, names_then, new_shape, none_added, on_ok_any, opens_given, opens_stored, outside_none, outside_some, own_of_turn, passed_alone, passed_of_turn, passed_then, recorded_begun, recorded_later, recorded_read, recorded_written, ref_there, refusal, refusal_told, refused_row, renewed_known, same_rest, told_alone, told_refused, told_wanting, told_without, txn_later, view_then, wanting_before, wanting_behind}
pub use Rattle.session_turns.proofs.OwnLaws.{drop_front, own-append, own-none}
