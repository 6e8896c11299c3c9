-- What crates above rest on. Each law with what it says.

-- an answer with its equation; a name that isn't bound; an answer to what is the same
pub use Rattle.line_acts.proofs.RefusalLaws.{refusal, named_none, answer_at}
-- what every name's view keeps, names keep once one of them is bound to a view that does
pub use Rattle.line_acts.proofs.RefusalLaws.{kept_bound}
-- a view that a line binds is of known arrays, where the names are
pub use Rattle.line_acts.proofs.ChangeLaws.{binds_known}
-- what holds of an answer, by what holds of another
pub use Rattle.line_acts.proofs.AnswerLaws.{if_ok_map, if_ok_both, if_err_map, changed_known}
-- what refuses a view by the count of its cells, and by the first cell without a target
pub use Rattle.line_acts.proofs.FaultLaws.{found_all, out_of_range_fault, uncovered_fault, counted_view, refused_by_count, refused_by_cell, counted_sound}
-- laws of crates below, given on to those above
pub use Rattle.line_meanings.proofs.Laws.{build_within, bytes_of_mount, changes_within, join_within, refusal_told}
