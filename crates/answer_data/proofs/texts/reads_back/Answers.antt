use Rattle.answer_data.proofs.Laws.{reads_back}
use Rattle.answer_data.proofs.texts.reads_back.Goals as goal

pub returns : goal.returns
returns c a printable = reads_back a printable
