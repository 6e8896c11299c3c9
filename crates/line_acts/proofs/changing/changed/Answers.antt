use Rattle.std.proofs.Common.{rules}
use Rattle.line_acts.proofs.ChangeLaws.{refused_first, refused_then, refused_alone}
use Rattle.line_acts.proofs.changing.changed.Goals as goal

pub returns-in-Ok-clause-err : goal.returns-in-Ok-clause-err
returns-in-Ok-clause-err c = refused_then c.args.view c.in-Ok.view c.args.transform.now c.in-Some.t c.args.steps.now c.stepped.result (search rules) c.in-Ok.ensures.value c.stepped.ensures.err

pub returns-in-Err-clause-err : goal.returns-in-Err-clause-err
returns-in-Err-clause-err c = refused_first c.args.view c.args.transform.now c.in-Some.t c.args.steps.now c.in-Err.body (search rules) c.in-Err.ensures.err

pub returns-in-None-clause-err : goal.returns-in-None-clause-err
returns-in-None-clause-err c = refused_alone c.args.view c.args.transform.now c.args.steps.now c.stepped-in-None.result (search rules) c.stepped-in-None.ensures.err
