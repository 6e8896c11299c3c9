use Rattle.output_laws.proofs.SpecTexts.{specs_texts}
use Rattle.output_laws.proofs.specs_are_texts.Goals as goal

pub returns : goal.returns
returns c = specs_texts
