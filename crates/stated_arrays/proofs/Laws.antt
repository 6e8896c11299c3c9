-- What crates above rest on.

-- the leaves of an open line with their numbers are those that take them
pub use Rattle.stated_arrays.proofs.PairLaws.{pairs_of}
-- laws of crates below, given on to those above
pub use Rattle.transcript_cut.proofs.Laws.{sessions_within}
pub use Rattle.transcript_cut.proofs.Laws.{commands_count, command_at, commands_taken}
pub use Rattle.transcript_cut.proofs.Laws.{array_at-outline, count-outline}
-- what is made of what is asked is stored; the outline of a legal history is legal
pub use Rattle.stated_arrays.proofs.TableLaws.{made_stored, outline_legal}
-- an array is known by the event that opened it, and has the shape that it had then
pub use Rattle.stated_arrays.proofs.OutcomeLaws.{IsKnownBy, known_by}
pub use Rattle.transcript_cut.proofs.Laws.{known_reference}
pub use Rattle.transcript_cut.proofs.Laws.{reference_given, there_of}
pub use Rattle.transcript_cut.proofs.Laws.{stated_same, step_same}
pub use Rattle.transcript_cut.proofs.Laws.{standing_stance}
pub use Rattle.transcript_cut.proofs.Laws.{known-outline, length-outline, outline-more, outline_opening}
pub use Rattle.transcript_cut.proofs.Laws.{location_new}
pub use Rattle.transcript_cut.proofs.Laws.{places_apart}
pub use Rattle.transcript_cut.proofs.Laws.{IsGoodLine, AreGoodLines, good_lines, AreSoundOps, IsSoundStanding, IsSoundAct, line_sound, act_leaves, with_read_sound, read_sound, left_sound, found_of, IsViewOf, AreViewsOf, new_known, lies_known, known_kept, built_known, view_present, bound_views, opened_names, IsBuilding, stated_commits_are_sound, stated_unresized, stated_is_one, history_is_one, part_5_follows, cut_is_one, AreUnresized, unresized_front, sound_follows}
pub use Rattle.transcript_cut.proofs.Laws.{among}
pub use Rattle.transcript_cut.proofs.Laws.{uncut}
