use Rattle.std.proofs.Common.{◌++◌, [], ◌∙◌, refl, arith}
use Rattle.std.proofs.lemmas.Result.{on_ok_weaker, err_from_is_err_and}
use Rattle.answer_text.specs.Text.{text_of_log}
use Rattle.script_streams.specs.Writing.{text_of_logs}
use Rattle.script_streams.proofs.Pieces.{item_put, item_part, items_put, all_behind, part_of_waiting}
use Rattle.script_streams.proofs.Given.{waiting_all, item_given, item_ended, items_given, goes_last, ended_so}
use Rattle.script_streams.proofs.writing.write_logs.Goals as goal

pub returns-in_err-put_log-clause-part : goal.returns-in_err-put_log-clause-part
returns-in_err-put_log-clause-part g c = λ before is.
    let under = c.loop-log.invariant.under before is in
    item_part text_of_log [] c.args.logs.now c.loop-log.log-index c.items.result.now c.log-item.result _ _ before c.loop-log.waiting.items (omega arith) (c.items.ensures ∙ c.log-item.is) under (c.in_err-put_log.ensures.part (before ++ under.front) under.written)

pub loop-log-preserved : goal.loop-log-preserved
loop-log-preserved g c = record {
  under = λ before is.
      let under = c.loop-log.invariant.under before is in
      item_put text_of_log [] c.args.logs.now c.loop-log.log-index c.items.result.now c.log-item.result _ _ before c.loop-log.waiting.items _ (omega arith) (c.items.ensures ∙ c.log-item.is) under (c.in_ok-put_log.ensures.put (before ++ under.front) under.written);
  later = omega (arith, c.put_log.ensures.faults.later, c.loop-log.invariant.later);
  going = item_given g.O.Writer.takes text_of_log [] c.args.logs.now c.loop-log.log-index c.items.result.now c.log-item.result _ _ _ c.loop-log.waiting.items _ (omega arith) (c.items.ensures ∙ c.log-item.is) c.loop-log.invariant.going c.in_ok-put_log.ensures.run;
}

pub returns-clause-all : goal.returns-clause-all
returns-clause-all g c =
    on_ok_weaker c.write_waiting.result
    (λ all before is.
    let under = items_put text_of_log [] c.args.logs.now c.loop-log.log-index _ before c.loop-log.waiting.items (omega arith) (c.loop-log.invariant.under before is) in
    all_behind _ _ before _ c.loop-log.waiting.items under (all (before ++ under.front) under.written))
    c.write_waiting.ensures.all

pub returns-clause-part : goal.returns-clause-part
returns-clause-part g c = λ before is.
    let under = items_put text_of_log [] c.args.logs.now c.loop-log.log-index _ before c.loop-log.waiting.items (omega arith) (c.loop-log.invariant.under before is) in
    part_of_waiting _ _ before _ c.loop-log.waiting.items under (c.write_waiting.ensures.part (before ++ under.front) under.written)

pub returns-in_err-put_log-clause-run : goal.returns-in_err-put_log-clause-run
returns-in_err-put_log-clause-run g c =
    let exit = err_from_is_err_and c.from_residual-in_err-put_log.result c.from_residual-in_err-put_log.ensures.1 in
    rw (exit.1, exit.2) (ended_so g.O.Writer.takes _ _ _ _ [] c.in_err-put_log.field-0.0 (item_ended g.O.Writer.takes text_of_log [] c.args.logs.now c.loop-log.log-index c.items.result.now c.log-item.result _ _ _ c.loop-log.waiting.items _ c.in_err-put_log.field-0.0 (omega arith) (c.items.ensures ∙ c.log-item.is) c.loop-log.invariant.going c.in_err-put_log.ensures.run))

pub returns-clause-run : goal.returns-clause-run
returns-clause-run g c =
    goes_last g.O.Writer.takes _ _ _ _ c.loop-log.waiting.items [] c.write_waiting.result
    (items_given g.O.Writer.takes text_of_log [] c.args.logs.now c.loop-log.log-index _ _ c.loop-log.waiting.items (omega arith) c.loop-log.invariant.going)
    c.write_waiting.ensures.run

pub returns-in_err-waiting-clause-run : goal.returns-in_err-waiting-clause-run
returns-in_err-waiting-clause-run g c =
    let exit = err_from_is_err_and c.from_residual.result c.from_residual.ensures.1 in
    let text = text_of_logs c.args.logs.now in
    rw (exit.1, exit.2) (text, waiting_all g.O.Writer.takes c.args.sink.now text text refl)
