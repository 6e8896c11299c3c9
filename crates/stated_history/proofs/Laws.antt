-- What crates above rest on. Each law with what it says.

-- items of a list, and what is told of the line at a place
pub use Rattle.stated_history.proofs.LineLaws.{take_got, got_low, each_at, map_got, told_at, line_told, cut_in_order, order_next, standing_more}
-- a walk before and behind the line at a place of a source
pub use Rattle.stated_history.proofs.SourceLaws.{got_or, said_count, told_in, kept_outline, takings_long, said_is, told_there, facing, taken_by, opened_by, IsOpenLine, open_line, act_faced, HasAnswer, has_answer, answer_same, got_below, IsLineOf, line_of_source, prints_at, taken_there, gone_by, ok_both, whole_of, read_gone}
-- what is copied of an act is the act
pub use Rattle.stated_acts.proofs.Laws.{kept_is}
-- laws of crates below, given on to those above
pub use Rattle.stated_acts.proofs.Laws.{IsGoodLine, AreGoodLines, good_lines, AreSoundOps, IsSoundStanding, IsSoundAct, line_sound, act_leaves, with_read_sound, read_sound, left_sound, found_of, IsViewOf, AreViewsOf, new_known, lies_known, known_kept, built_known, view_present, bound_views, opened_names, IsBuilding, stated_commits_are_sound, stated_unresized, stated_is_one, history_is_one, part_5_follows, cut_is_one, AreUnresized, unresized_front, sound_follows, stated_same, step_same, outline_legal}
pub use Rattle.stated_acts.proofs.Laws.{known-outline}
pub use Rattle.stated_acts.proofs.Laws.{among}
pub use Rattle.stated_acts.proofs.Laws.{uncut}
pub use Rattle.stated_acts.proofs.Laws.{sessions_within}
