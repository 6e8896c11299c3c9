use Rattle.std.proofs.Common.{◌≡◌, ◌<◌, ◌++◌, IfOk, get_or, length, sym, subst, arith}
use Rattle.std.proofs.lemmas.Result.{err_from_is_err_and}
use Rattle.answer_text.specs.Text.{text_of_log}
use Rattle.script_streams.proofs.Pieces.{item_put, item_part, items_put, part_of}
use Rattle.script_streams.proofs.Given.{item_given, item_ended}
use Rattle.script_streams.proofs.writing.put_logs.Goals as goal

pub put_rendered-requires : goal.put_rendered-requires
put_rendered-requires g c =
    let place = c.loop-place.place in
    subst (λ texts. (d : _) → place < length texts → IfOk (get_or texts place d) (λ text. text.items ≡ text_of_log c.index-logs-place.result)) (sym c.deref.ensures.value)
    (λ d within.
    subst (λ log. IfOk (get_or c.render_beside-texts.result.items place d) (λ text. text.items ≡ text_of_log log)) (sym c.index-logs-place.is)
    (c.render_beside-texts.ensures place d c.index-logs-place.result within))

pub returns-in_err-put_rendered-clause-part : goal.returns-in_err-put_rendered-clause-part
returns-in_err-put_rendered-clause-part g c = λ before is.
    let under = c.loop-place.invariant.under before is in
    item_part text_of_log c.args.waiting.now.items c.args.logs.now c.loop-place.place c.index-logs-place.result c.index-logs-place.result _ _ before c.loop-place.waiting.items (omega (arith, c.loop-place-test.true)) c.index-logs-place.is under (c.in_err-put_rendered.ensures.part (before ++ under.front) under.written)

pub returns-in_err-put_rendered-clause-run : goal.returns-in_err-put_rendered-clause-run
returns-in_err-put_rendered-clause-run g c =
    let exit = err_from_is_err_and c.from_residual.result c.from_residual.ensures.1 in
    rw (exit.1, exit.2) (item_ended g.O.Writer.takes text_of_log c.args.waiting.now.items c.args.logs.now c.loop-place.place c.index-logs-place.result c.index-logs-place.result _ _ _ c.loop-place.waiting.items _ c.in_err-put_rendered.field-0.0 (omega (arith, c.loop-place-test.true)) c.index-logs-place.is c.loop-place.invariant.going c.in_err-put_rendered.ensures.run)

pub loop-place-preserved : goal.loop-place-preserved
loop-place-preserved g c = record {
  under = λ before is.
      let under = c.loop-place.invariant.under before is in
      item_put text_of_log c.args.waiting.now.items c.args.logs.now c.loop-place.place c.index-logs-place.result c.index-logs-place.result _ _ before c.loop-place.waiting.items _ (omega (arith, c.loop-place-test.true)) c.index-logs-place.is under (c.in_ok-put_rendered.ensures.put (before ++ under.front) under.written);
  later = omega (arith, c.put_rendered.ensures.faults.later, c.loop-place.invariant.later);
  going = item_given g.O.Writer.takes text_of_log c.args.waiting.now.items c.args.logs.now c.loop-place.place c.index-logs-place.result c.index-logs-place.result _ _ _ c.loop-place.waiting.items _ (omega (arith, c.loop-place-test.true)) c.index-logs-place.is c.loop-place.invariant.going c.in_ok-put_rendered.ensures.run;
}

pub returns-clause-part : goal.returns-clause-part
returns-clause-part g c = λ before is.
    part_of _ before _ c.loop-place.waiting.items
    (items_put text_of_log c.args.waiting.now.items c.args.logs.now c.loop-place.place _ before c.loop-place.waiting.items (omega (arith, c.loop-place-test.false)) (c.loop-place.invariant.under before is))
