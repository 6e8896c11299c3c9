use Rattle.script_streams.proofs.Pieces.{all_written}
use Rattle.std.proofs.lemmas.Result.{err_from_is_err_and}
use Rattle.script_streams.proofs.Given.{given_whole, refused_whole}
use Rattle.script_streams.proofs.writing.put_alone.Goals as goal

pub returns-clause-put : goal.returns-clause-put
returns-clause-put g c = λ before is. all_written _ before c.args.line.now c.args.waiting.now.items (c.in_ok-put.ensures.all before is) c.requires

pub returns-in_err-put-clause-run : goal.returns-in_err-put-clause-run
returns-in_err-put-clause-run g c =
    let exit = err_from_is_err_and c.from_residual-in_err-put.result c.from_residual-in_err-put.ensures.1 in
    rw (exit.1, exit.2) (refused_whole g.O.Writer.takes c.args.sink.now c.put.new.self c.args.line.now c.in_err-put.ensures.takes)

pub returns-clause-run : goal.returns-clause-run
returns-clause-run g c = given_whole g.O.Writer.takes c.args.sink.now c.put.new.self c.args.line.now c.args.waiting.now.items c.requires c.in_ok-put.ensures.takes
