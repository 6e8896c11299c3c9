-- What crates above rest on. Each law with what it says; where it stands, it has its premises.

-- what holds of all lines holds of each of them
pub use Rattle.transcript_laws.proofs.Cuts.{among}
-- texts without an LF that an LF ends are the same, where what begins with them is; so are answers
pub use Rattle.transcript_laws.proofs.Cuts.{cut_once, one_answer, regroup}
-- a transcript is cut in one way
pub use Rattle.transcript_laws.proofs.Cuts.{cut_is_one}
-- what is told of the lines states one history at most
pub use Rattle.transcript_laws.proofs.OneHistory.{history_is_one, stated_is_one}
-- each commit that lines of checked scripts state is sound, and no line states that an array gets another shape
pub use Rattle.transcript_laws.proofs.StatedCommits.{stated_commits_are_sound}
-- what a sound session's next line does is sound, and so is the session behind it
pub use Rattle.transcript_laws.proofs.StatedCommits.{IsGoodLine, AreGoodLines, good_lines, AreSoundOps, IsSoundStanding, IsSoundAct, line_sound, act_leaves, with_read_sound, read_sound, left_sound, found_of}
-- arrays that leaves open or find, and views over them, are of the history
pub use Rattle.transcript_laws.proofs.KnownArrays.{IsViewOf, AreViewsOf, new_known, lies_known, known_kept, built_known, view_present, bound_views, opened_names}
pub use Rattle.transcript_laws.proofs.Views.{IsBuilding}
pub use Rattle.transcript_laws.proofs.Places.{AreUnresized, unresized_front}
pub use Rattle.transcript_laws.proofs.StatedEvents.{stated_unresized}
-- a sound operation may follow the events behind which its arrays are known, where there is one word for each of its cells
pub use Rattle.transcript_laws.proofs.StatedCommits.{sound_follows}
-- where part 4 holds, so does part 5
pub use Rattle.transcript_laws.proofs.Plain.{part_5_follows}
-- one line at most is that because of which a transcript isn't checked, and one verdict at most is right
pub use Rattle.transcript_laws.proofs.OneLine.{line_is_one, verdict_is_one}
-- laws of crates below, given on to those above
pub use Rattle.state_laws.proofs.Fresh.{location_new, opening_new}
pub use Rattle.state_laws.proofs.Keyed.{places_apart}
pub use Rattle.state_laws.proofs.Located.{free_of}
pub use Rattle.state_laws.proofs.Outline.{array_at-outline, count-outline, known-outline, length-outline, outline-more, outline_opening}
pub use Rattle.state_laws.proofs.Laws.{known_reference, known_shaped}
pub use Rattle.state_laws.proofs.Laws.{reference_given, there_of}
pub use Rattle.answer_data.proofs.Laws.{reads_back, told_data}
pub use Rattle.answer_data.proofs.Laws.{nested_words-values_data}
pub use Rattle.history.proofs.Laws.{some_inj}
