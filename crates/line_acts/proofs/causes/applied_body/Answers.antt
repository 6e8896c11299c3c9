use Rattle.line_acts.proofs.ChangeLaws.{told_unknown, told_repeated, told_step}
use Rattle.line_acts.proofs.causes.applied_body.Goals as goal

pub returns-in-UnknownDim : goal.returns-in-UnknownDim
returns-in-UnknownDim c = told_unknown c.args.e c.in-UnknownDim.step c.in-UnknownDim.is

pub returns-in-RepeatedDim : goal.returns-in-RepeatedDim
returns-in-RepeatedDim c = told_repeated c.args.e c.in-RepeatedDim.step c.in-RepeatedDim.is

pub returns-in-Refused : goal.returns-in-Refused
returns-in-Refused c = told_step c.args.e c.in-Refused.step c.in-Refused.cause c.in-Refused.is
