-- The laws of fitting answers that other crates rest on.

-- the lines up to one whose number follows those of the first so many are these
pub use Rattle.line_fits.proofs.Walls.{AreBelow, up_to-take}
-- where there is one answer, a test of its text tells whether a line is answered so
pub use Rattle.line_fits.proofs.OneAnswer.{answered_by_one}
-- which numbers answers of writes, commits and failed calls print
pub use Rattle.line_fits.proofs.OneAnswer.{written_done, committed_done, failure_number, no_failure, failure_is}
-- laws of crates below, given on to those above
pub use Rattle.transcript_cut.proofs.Laws.{there_at}
pub use Rattle.transcript_cut.proofs.Laws.{AreUnresized, IsUnresized, lies_here, stays, stays_more, stays_step, stays_until, unresized_back, unresized_front}
pub use Rattle.transcript_cut.proofs.Laws.{nested_words-values_data}
pub use Rattle.transcript_cut.proofs.Laws.{first_reads-more}
pub use Rattle.event_replay.proofs.FollowLaws.{can_locate_view}
pub use Rattle.event_replay.proofs.Fronts.{front_at, front_outline, grows, known_later, stated_next}
pub use Rattle.event_replay.proofs.OpLaws.{leaf_count}
pub use Rattle.event_replay.proofs.Sites.{IsSiteOf, all_present, id_is}
pub use Rattle.event_replay.proofs.SweepLaws.{count_next}
