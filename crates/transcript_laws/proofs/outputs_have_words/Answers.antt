use Rattle.transcript_laws.proofs.Words.{outputs_have_words}
use Rattle.transcript_laws.proofs.outputs_have_words.Goals as goal

pub returns : goal.returns
returns c scripts history logs is = outputs_have_words scripts history logs is
