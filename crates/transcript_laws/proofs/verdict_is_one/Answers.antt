use Rattle.transcript_laws.proofs.OneLine.{verdict_is_one}
use Rattle.transcript_laws.proofs.verdict_is_one.Goals as goal

pub returns : goal.returns
returns c scripts transcript v w is are = verdict_is_one scripts transcript v w is are
