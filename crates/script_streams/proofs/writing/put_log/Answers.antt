use Rattle.std.proofs.Common.{◌++◌, arith}
use Rattle.std.proofs.lemmas.Result.{err_from_is_err_and}
use Rattle.answer_text.specs.Text.{answer_text}
use Rattle.script_streams.proofs.Pieces.{item_put, item_part, items_put, part_of}
use Rattle.script_streams.proofs.Given.{item_given, item_ended, items_given}
use Rattle.script_streams.proofs.writing.put_log.Goals as goal

pub returns-in_err-put_answer-clause-part : goal.returns-in_err-put_answer-clause-part
returns-in_err-put_answer-clause-part g c = λ before is.
    let under = c.loop-answer.invariant.under before is in
    item_part answer_text c.args.waiting.now.items c.args.log.now c.loop-answer.answer-index c.answer-item.result c.answer-item.result _ _ before c.loop-answer.waiting.items (omega arith) c.answer-item.is under (c.in_err-put_answer.ensures.part (before ++ under.front) under.written)

pub loop-answer-preserved : goal.loop-answer-preserved
loop-answer-preserved g c = record {
  under = λ before is.
      let under = c.loop-answer.invariant.under before is in
      item_put answer_text c.args.waiting.now.items c.args.log.now c.loop-answer.answer-index c.answer-item.result c.answer-item.result _ _ before c.loop-answer.waiting.items _ (omega arith) c.answer-item.is under (c.in_ok-put_answer.ensures.put (before ++ under.front) under.written);
  later = omega (arith, c.put_answer.ensures.faults.later, c.loop-answer.invariant.later);
  going = item_given g.O.Writer.takes answer_text c.args.waiting.now.items c.args.log.now c.loop-answer.answer-index c.answer-item.result c.answer-item.result _ _ _ c.loop-answer.waiting.items _ (omega arith) c.answer-item.is c.loop-answer.invariant.going c.in_ok-put_answer.ensures.run;
}

pub returns-clause-put : goal.returns-clause-put
returns-clause-put g c = λ before is.
    items_put answer_text c.args.waiting.now.items c.args.log.now c.loop-answer.answer-index _ before c.loop-answer.waiting.items (omega arith) (c.loop-answer.invariant.under before is)

pub returns-clause-part : goal.returns-clause-part
returns-clause-part g c = λ before is.
    part_of _ before _ c.loop-answer.waiting.items
    (items_put answer_text c.args.waiting.now.items c.args.log.now c.loop-answer.answer-index _ before c.loop-answer.waiting.items (omega arith) (c.loop-answer.invariant.under before is))

pub returns-in_err-put_answer-clause-run : goal.returns-in_err-put_answer-clause-run
returns-in_err-put_answer-clause-run g c =
    let exit = err_from_is_err_and c.from_residual.result c.from_residual.ensures.1 in
    rw (exit.1, exit.2) (item_ended g.O.Writer.takes answer_text c.args.waiting.now.items c.args.log.now c.loop-answer.answer-index c.answer-item.result c.answer-item.result _ _ _ c.loop-answer.waiting.items _ c.in_err-put_answer.field-0.0 (omega arith) c.answer-item.is c.loop-answer.invariant.going c.in_err-put_answer.ensures.run)

pub returns-clause-run : goal.returns-clause-run
returns-clause-run g c = items_given g.O.Writer.takes answer_text c.args.waiting.now.items c.args.log.now c.loop-answer.answer-index _ _ c.loop-answer.waiting.items (omega arith) c.loop-answer.invariant.going
