use Rattle.transcript_laws.proofs.ThreeCellsVerdict.{fits_verdict}
use Rattle.transcript_laws.proofs.ThreeCellsWrong.{commit_verdict, value_verdict}
use Rattle.transcript_laws.proofs.ThreeCellsNumberless.{numberless_verdict}
use Rattle.transcript_laws.proofs.three_cells_are_judged.Goals as goal

pub returns-clause-fits : goal.returns-clause-fits
returns-clause-fits c = fits_verdict

pub returns-clause-wrong_number : goal.returns-clause-wrong_number
returns-clause-wrong_number c = commit_verdict

pub returns-clause-wrong_word : goal.returns-clause-wrong_word
returns-clause-wrong_word c = value_verdict

pub returns-clause-no_number : goal.returns-clause-no_number
returns-clause-no_number c = numberless_verdict
