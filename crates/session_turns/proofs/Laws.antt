-- What crates above rest on. Each law with what it says.

-- the events of a turn, and of several, with their numbers; what lies behind the same front
pub use Rattle.session_turns.proofs.OwnLaws.{own_of_turn, none_added, added_then, same_rest}
-- behind a turn, without one and behind several a pass rests
pub use Rattle.session_turns.proofs.OwnLaws.{passed_of_turn, passed_alone, passed_then}
-- an array that a view names is there behind a turn, and its present shape is one that the view may take
pub use Rattle.session_turns.proofs.RefLaws.{IsThere, ref_there, new_shape, asked_then}
pub use Rattle.session_turns.proofs.FoundLaws.{later_refs}
-- one leaf more that is opened
pub use Rattle.session_turns.proofs.OpenLaws.{opens_stored, opens_given}
-- one that is refused, and want of memory before a turn and behind one that added no event, are rows
pub use Rattle.session_turns.proofs.RefusedLaws.{refused_row, wanting_before, wanting_behind, adds_none}
-- names of views of known arrays stay such behind a turn, and so is a view with its array's present bounds
pub use Rattle.session_turns.proofs.NameLaws.{view_then, names_then, renewed_known}
-- want of memory, and a refusal, are rows of each line, over whatever events; so is a name that is bound to what the line asks
pub use Rattle.session_turns.proofs.ToldLaws.{told_wanting, told_refused, told_bound}
-- so is a refusal of a line that may take turns, where it takes none
pub use Rattle.session_turns.proofs.AloneLaws.{told_alone, told_without}
-- what is asked outside of a transaction
pub use Rattle.session_turns.proofs.ToldLaws.{outside_some, outside_none}
-- laws of crates below, given on to those above
pub use Rattle.transactions.proofs.Laws.{IsCalm, commit_caused, may_calm, none_staged, recorded_begun, recorded_later, recorded_read, recorded_written, txn_later}
pub use Rattle.state_resizes.proofs.Laws.{body_of, resize_row}
pub use Rattle.line_acts.proofs.Laws.{answer_at, binds_known, build_within, bytes_of_mount, changes_within, found_all, if_err_map, if_ok_both, if_ok_map, join_within, kept_bound, named_none, refusal, refusal_told}
pub use Rattle.transactions.proofs.StagedLaws.{on_ok_any}
