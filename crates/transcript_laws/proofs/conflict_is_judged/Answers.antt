use Rattle.transcript_laws.proofs.ReadConflictVerdicts.{fits_verdict, late_verdict, same_verdict, own_verdict}
use Rattle.transcript_laws.proofs.conflict_is_judged.Goals as goal

pub returns-clause-fits : goal.returns-clause-fits
returns-clause-fits c = fits_verdict

pub returns-clause-not_later : goal.returns-clause-not_later
returns-clause-not_later c = late_verdict

pub returns-clause-same_event : goal.returns-clause-same_event
returns-clause-same_event c = same_verdict

pub returns-clause-own_event : goal.returns-clause-own_event
returns-clause-own_event c = own_verdict
