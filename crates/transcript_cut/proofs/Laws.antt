-- What crates above rest on. Each law with what it says; where it stands, it has its premises.

-- the sessions of what is kept of a cut are those of its scripts
pub use Rattle.transcript_cut.proofs.Sessions.{sessions_within}
-- what is kept of lines, by their places
pub use Rattle.transcript_cut.proofs.KeptLines.{commands_count, command_at, commands_taken}
-- laws of crates below, given on to those above
pub use Rattle.transcript_laws.proofs.Laws.{location_new, opening_new}
pub use Rattle.transcript_laws.proofs.Laws.{places_apart}
pub use Rattle.transcript_laws.proofs.Laws.{free_of}
pub use Rattle.transcript_laws.proofs.Laws.{array_at-outline, count-outline, known-outline, length-outline, outline-more, outline_opening}
pub use Rattle.transcript_laws.proofs.Stances.{standing_stance}
pub use Rattle.transcript_laws.proofs.Laws.{known_reference, known_shaped}
pub use Rattle.transcript_laws.proofs.Laws.{reference_given, there_of}
pub use Rattle.transcript_laws.proofs.SameOutline.{stated_same, step_same}
pub use Rattle.transcript_laws.proofs.Laws.{told_data}
pub use Rattle.transcript_laws.proofs.Opens.{there_at}
pub use Rattle.transcript_laws.proofs.Places.{AreUnresized, IsUnresized, lies_here, stays, stays_more, stays_step, stays_until, unresized_back, unresized_front}
pub use Rattle.transcript_laws.proofs.Laws.{nested_words-values_data}
pub use Rattle.transcript_laws.proofs.Marked.{first_reads-more}
pub use Rattle.transcript_laws.proofs.Laws.{IsGoodLine, AreGoodLines, good_lines, AreSoundOps, IsSoundStanding, IsSoundAct, line_sound, act_leaves, with_read_sound, read_sound, left_sound, found_of, IsViewOf, AreViewsOf, new_known, lies_known, known_kept, built_known, view_present, bound_views, opened_names, IsBuilding, stated_commits_are_sound, stated_unresized, stated_is_one, history_is_one, part_5_follows, cut_is_one, sound_follows}
pub use Rattle.transcript_laws.proofs.Laws.{among}
pub use Rattle.transcript_laws.proofs.Cuts.{uncut}
