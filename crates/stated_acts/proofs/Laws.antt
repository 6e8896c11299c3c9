-- What crates above rest on. Each law with what it says.

-- views stay views, and operations those of an event, behind each act
pub use Rattle.stated_acts.proofs.StandingLaws.{sound_of, kept_of}
-- what is copied of an act is the act
pub use Rattle.stated_acts.proofs.CopyLaws.{kept_is}
-- the number that each leaf of an open line takes is that of its array, where each number that the line prints is that of an opening
pub use Rattle.stated_acts.proofs.TakenLaws.{outlined_given}
-- laws of crates below, given on to those above
pub use Rattle.stated_arrays.proofs.Laws.{pairs_of}
pub use Rattle.stated_arrays.proofs.Exact.{exact_table}
pub use Rattle.stated_arrays.proofs.StepLaws.{in_back, in_front}
pub use Rattle.stated_arrays.proofs.Laws.{stated_same, step_same}
pub use Rattle.stated_arrays.proofs.Laws.{standing_stance}
pub use Rattle.stated_arrays.proofs.Laws.{known_reference}
pub use Rattle.stated_arrays.proofs.Laws.{array_at-outline, count-outline, known-outline, length-outline, outline-more, outline_opening}
pub use Rattle.stated_arrays.proofs.Laws.{reference_given}
pub use Rattle.stated_arrays.proofs.Laws.{location_new}
pub use Rattle.stated_arrays.proofs.Laws.{places_apart}
pub use Rattle.stated_arrays.proofs.TableLaws.{made_stored, outline_legal}
pub use Rattle.stated_arrays.proofs.Laws.{IsGoodLine, AreGoodLines, good_lines, AreSoundOps, IsSoundStanding, IsSoundAct, line_sound, act_leaves, with_read_sound, read_sound, left_sound, found_of, IsViewOf, AreViewsOf, new_known, lies_known, known_kept, built_known, view_present, bound_views, opened_names, IsBuilding, stated_commits_are_sound, stated_unresized, stated_is_one, history_is_one, part_5_follows, cut_is_one, AreUnresized, unresized_front, sound_follows}
pub use Rattle.stated_arrays.proofs.Laws.{among}
pub use Rattle.stated_arrays.proofs.Laws.{uncut}
pub use Rattle.stated_arrays.proofs.Laws.{sessions_within}
pub use Rattle.stated_arrays.proofs.Laws.{commands_count, command_at, commands_taken}
