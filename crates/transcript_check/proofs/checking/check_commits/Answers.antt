use Rattle.std.proofs.Common.{sym, subst}
use Rattle.transcript_check.specs.Parts.{AreStatedIn}
use Rattle.transcript_check.proofs.checking.check_commits.Goals as goal

pub check_events-requires-clause-stated : goal.check_events-requires-clause-stated
check_events-requires-clause-stated c = subst (AreStatedIn c.args.source.now) (sym c.as_slice.ensures.value) c.in-Ok.ensures
