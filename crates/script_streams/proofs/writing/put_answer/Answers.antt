use Rattle.std.proofs.Common.{◌++◌, refl}
use Rattle.std.proofs.lemmas.Result.{err_from_is_err_and}
use Rattle.answer_text.specs.Text.{answer_text}
use Rattle.script_streams.proofs.Given.{waiting_all}
use Rattle.script_streams.proofs.writing.put_answer.Goals as goal

pub returns-in_err-line-clause-run : goal.returns-in_err-line-clause-run
returns-in_err-line-clause-run g c =
    let exit = err_from_is_err_and c.from_residual.result c.from_residual.ensures.1 in
    let text = c.args.waiting.now.items ++ answer_text c.args.answer.now in
    rw (exit.1, exit.2) (text, waiting_all g.O.Writer.takes c.args.sink.now text text refl)
