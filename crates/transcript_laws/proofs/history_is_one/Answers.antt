use Rattle.transcript_laws.proofs.OneHistory.{history_is_one}
use Rattle.transcript_laws.proofs.history_is_one.Goals as goal

pub returns : goal.returns
returns c told h k numbered is are = history_is_one told h k numbered is are
