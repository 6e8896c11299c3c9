use Rattle.std.proofs.Common.{sym, subst}
use Rattle.open_fits.specs.StoredPuts.{AreStored}
use Rattle.stated_history.specs.Walks.{outlined}
use Rattle.stated_history.proofs.Laws.{kept_outline}
use Rattle.transcript_fits.specs.Judges.{AreCounts}
use Rattle.transcript_fits.proofs.AllJudged.{judge_is}
use Rattle.transcript_fits.proofs.judging.are_answered.Goals as goal

pub stored_of-requires-clause-kept : goal.stored_of-requires-clause-kept
stored_of-requires-clause-kept c = (kept_outline c.args.source.now c.requires.source).kept

pub stored_of-requires-clause-count : goal.stored_of-requires-clause-count
stored_of-requires-clause-count c = c.requires.source.stated.opened.count

pub judge_sessions-requires-clause-judge : goal.judge_sessions-requires-clause-judge
judge_sessions-requires-clause-judge c =
    judge_is (record { source = c.args.source; acts = c.args.acts; events = c.args.events; store = c.args.store; counts = c.deref.result; stored = c.deref-2.result }) c.requires
    (subst (AreCounts c.args.events.now) (sym c.deref.ensures.value) c.in_ok-counts.ensures) (subst (AreStored (outlined c.args.source.now)) (sym c.deref-2.ensures.value) c.in_ok-stored.ensures)
