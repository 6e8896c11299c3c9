use Rattle.answer_data.proofs.Laws.{nested_words-values_data}
use Rattle.answer_data.proofs.texts.values_read_back.Goals as goal

pub returns : goal.returns
returns c dtype shape words long each = nested_words-values_data dtype shape words long each
