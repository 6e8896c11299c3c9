use Rattle.stated_history.proofs.Laws.{kept_outline}
use Rattle.transcript_fits.proofs.pending.Pending.hold.Goals as goal

pub are_refused-requires-clause-openings : goal.are_refused-requires-clause-openings
are_refused-requires-clause-openings c = (kept_outline c.args.judge.now.source.now c.requires.judge.source).kept
