use Rattle.transcript_laws.proofs.Cuts.{cut_is_one}
use Rattle.transcript_laws.proofs.cut_is_one.Goals as goal

pub returns : goal.returns
returns c scripts transcript told other is are = cut_is_one scripts transcript told other is are
