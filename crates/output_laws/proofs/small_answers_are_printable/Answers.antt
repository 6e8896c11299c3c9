use Rattle.output_laws.proofs.SmallBodies.{small_printable}
use Rattle.output_laws.proofs.small_answers_are_printable.Goals as goal

pub returns : goal.returns
returns c = small_printable
