use Rattle.transcript_laws.proofs.Fit.{printable_outputs_fit, fit_where_printable}
use Rattle.transcript_laws.proofs.printable_outputs_fit.Goals as goal

pub returns-clause-fits : goal.returns-clause-fits
returns-clause-fits c scripts history logs is printable = printable_outputs_fit scripts history logs is printable

pub returns-clause-rest : goal.returns-clause-rest
returns-clause-rest c printable scripts history logs is few = fit_where_printable printable scripts history logs is few
