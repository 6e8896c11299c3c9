use Rattle.line_acts.proofs.JoinLaws.{told_unjoined}
use Rattle.line_acts.proofs.causes.joined_body.Goals as goal

pub returns-in_default : goal.returns-in_default
returns-in_default c = told_unjoined c.args.e c.in_default.not-Memory
