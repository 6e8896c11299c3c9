use Rattle.transcript_laws.proofs.Plain.{part_5_follows}
use Rattle.transcript_laws.proofs.part_5_follows.Goals as goal

pub returns : goal.returns
returns c told history is = part_5_follows told history is
