use Rattle.transcript_check.proofs.PartLaws.{may_be_swept, not_legal}
use Rattle.transcript_check.proofs.checking.check_events.Goals as goal

pub sweep_into-requires-clause-stated : goal.sweep_into-requires-clause-stated
sweep_into-requires-clause-stated c = may_be_swept c.args.source.now c.requires.source c.args.events.now c.requires.stated

pub check_answers-requires-clause-legal : goal.check_answers-requires-clause-legal
check_answers-requires-clause-legal c = let swept = rw c.in-Ok-Some.field-0-is at c.in-Ok-Some.ensures.some in swept.legal

pub check_answers-requires-clause-kept : goal.check_answers-requires-clause-kept
check_answers-requires-clause-kept c = rw c.in-Ok-Some.field-0-is at c.in-Ok-Some.ensures.kept

pub returns-in-Ok-None : goal.returns-in-Ok-None
returns-in-Ok-None c = not_legal c.args.source.now c.requires.source c.args.events.now c.requires.stated (rw c.in-Ok-None.field-0-is at c.in-Ok-None.ensures.none)
