use Rattle.std.proofs.Common.{[], false, true, subst, refl}
use Rattle.std.proofs.lemmas.Result.{err_from_is_err_and}
use Rattle.script_streams.proofs.Given.{given_whole, refused_whole}
use Rattle.script_streams.proofs.writing.write_waiting.Goals as goal

pub returns-in_err-put-clause-run : goal.returns-in_err-put-clause-run
returns-in_err-put-clause-run g c =
    let exit = err_from_is_err_and c.from_residual.result c.from_residual.ensures.1 in
    let failed = subst (λ t. g.O.Writer.takes c.args.sink.now t false c.put.new.self) c.as_slice.ensures.value c.in_err-put.ensures.takes in
    rw (exit.1, exit.2) (refused_whole g.O.Writer.takes c.args.sink.now c.put.new.self c.args.waiting.now.items failed)

pub returns-clause-run : goal.returns-clause-run
returns-clause-run g c =
    given_whole g.O.Writer.takes c.args.sink.now c.put.new.self c.args.waiting.now.items [] refl
    (subst (λ t. g.O.Writer.takes c.args.sink.now t true c.put.new.self) c.as_slice.ensures.value c.in_ok-put.ensures.takes)
