use Rattle.std.proofs.Common.{rules}
use Rattle.line_acts.proofs.RefusalLaws.{named_none}
use Rattle.line_acts.proofs.names.named.Goals as goal

pub returns-in-None-clause-err : goal.returns-in-None-clause-err
returns-in-None-clause-err c = λ next. named_none c.args.name.now _ next c.unknown.result (search rules) (c.unknown.ensures next)
