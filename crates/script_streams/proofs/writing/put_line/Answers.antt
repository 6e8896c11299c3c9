use Rattle.std.proofs.Common.{◌++◌, [], refl}
use Rattle.std.proofs.lemmas.Result.{on_ok_weaker, err_from_is_err_and}
use Rattle.script_streams.proofs.Pieces.{under_behind, part_behind, part_longer}
use Rattle.script_streams.proofs.Given.{waiting_all, goes_on}
use Rattle.script_streams.proofs.writing.put_line.Goals as goal

pub returns-in_err-write_waiting-clause-part : goal.returns-in_err-write_waiting-clause-part
returns-in_err-write_waiting-clause-part g c = λ before is. part_longer _ before c.args.waiting.now.items c.args.line.now (c.in_err-write_waiting.ensures.part before is)

pub returns-clause-put : goal.returns-clause-put
returns-clause-put g c =
    on_ok_weaker c.put_alone.result
    (λ put before is. under_behind _ before c.args.waiting.now.items c.args.line.now c.put_alone.new.waiting.items (put (before ++ c.args.waiting.now.items) (c.in_ok-write_waiting.ensures.all before is)))
    c.put_alone.ensures.put

pub returns-clause-part : goal.returns-clause-part
returns-clause-part g c = λ before is. part_behind _ before c.args.waiting.now.items c.args.line.now (c.put_alone.ensures.part (before ++ c.args.waiting.now.items) (c.in_ok-write_waiting.ensures.all before is))

pub returns-in_err-extend_from_slice-clause-run : goal.returns-in_err-extend_from_slice-clause-run
returns-in_err-extend_from_slice-clause-run g c =
    let exit = err_from_is_err_and c.from_residual.result c.from_residual.ensures.1 in
    let text = c.args.waiting.now.items ++ c.args.line.now in
    rw (exit.1, exit.2) (text, waiting_all g.O.Writer.takes c.args.sink.now text text refl)

pub returns-clause-run : goal.returns-clause-run
returns-clause-run g c = goes_on g.O.Writer.takes c.args.sink.now c.write_waiting.new.sink c.put_alone.new.sink c.args.waiting.now.items [] c.args.line.now c.put_alone.new.waiting.items c.put_alone.result c.in_ok-write_waiting.ensures.run c.put_alone.ensures.run
