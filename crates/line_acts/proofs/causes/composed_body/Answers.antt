use Rattle.line_acts.proofs.ChangeLaws.{told_composed}
use Rattle.line_acts.proofs.causes.composed_body.Goals as goal

pub returns-in_default : goal.returns-in_default
returns-in_default c = told_composed c.args.e c.in_default.not-Memory
