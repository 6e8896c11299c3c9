use Rattle.script_runner.specs.Promises.{text_of}
use Rattle.script_runner.proofs.Written.{put_stopped, stopped_none}
use Rattle.script_runner.proofs.writing.status_of.Goals as goal

pub returns-then-not-whole-clause-put : goal.returns-then-not-whole-clause-put
returns-then-not-whole-clause-put g c =
    let text = text_of c.args.report c.args.logs.now c.args.history.now in
    put_stopped g.O.Writer.takes c.args.sink.now text c.args.sink.now (stopped_none g.O.Writer.takes c.args.sink.now text)
