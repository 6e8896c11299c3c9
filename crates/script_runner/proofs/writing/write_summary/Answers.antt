use Rattle.made_scripts.specs.Summary.{summary_text}
use Rattle.script_runner.proofs.Written.{stopped_none}
use Rattle.script_runner.proofs.writing.write_summary.Goals as goal

pub returns-in-Err-clause-run : goal.returns-in-Err-clause-run
returns-in-Err-clause-run g c = stopped_none g.O.Writer.takes c.args.sink.now (summary_text c.args.logs.now c.args.history.now)
