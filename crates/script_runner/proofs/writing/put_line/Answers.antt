use Rattle.std.proofs.Common.{refl}
use Rattle.script_runner.proofs.Written.{one_taken, one_refused}
use Rattle.script_runner.proofs.writing.put_line.Goals as goal

pub returns-in-Ok-clause-run : goal.returns-in-Ok-clause-run
returns-in-Ok-clause-run g c = one_taken g.O.Writer.takes c.args.sink.now c.args.line.now c.args.line.now c.put.new.self refl c.in-Ok.ensures.takes

pub returns-in-Err-clause-run : goal.returns-in-Err-clause-run
returns-in-Err-clause-run g c = one_refused g.O.Writer.takes c.args.sink.now c.args.line.now c.args.line.now c.put.new.self refl c.in-Err.ensures.takes
