use Rattle.transcript_check.proofs.SweepLaws.{stated_may_be_swept}
use Rattle.transcript_check.proofs.stating.stated_history_may_be_swept.Goals as goal

pub returns : goal.returns
returns c = stated_may_be_swept
