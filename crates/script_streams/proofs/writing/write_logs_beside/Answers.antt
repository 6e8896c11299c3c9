use Rattle.std.proofs.Common.{◌≡◌, ◌+◌, ◌-◌, ℕ, List, ◌++◌, [], drop, take, ap, refl, arith}
use Rattle.std.proofs.lemmas.Result.{on_ok_weaker, err_from_is_err_and}
use Rattle.answer_text.specs.Text.{text_of_log}
use Rattle.script_streams.specs.Writing.{text_of_logs}
use Rattle.script_streams.proofs.Pieces.{some_put, some_part, items_put, all_behind, part_of_waiting}
use Rattle.script_streams.proofs.Given.{waiting_all, some_given, some_ended, items_given, goes_last, ended_so}
use Rattle.script_streams.proofs.writing.write_logs_beside.Goals as goal

-- a slice has as many items as lie between its ends
between : {X : Type 0} (xs : List X) (from count : ℕ) → take (from + count - from) (drop from xs) ≡ take count (drop from xs)
between xs from count = ap (λ n. take n (drop from xs)) (counted from count)
  where
    counted : (m n : ℕ) → m + n - m ≡ n
    counted m n = omega arith

pub returns-in_err-waiting-clause-run : goal.returns-in_err-waiting-clause-run
returns-in_err-waiting-clause-run g c =
    let exit = err_from_is_err_and c.from_residual.result c.from_residual.ensures.1 in
    let text = text_of_logs c.args.logs.now in
    rw (exit.1, exit.2) (text, waiting_all g.O.Writer.takes c.args.sink.now text text refl)

pub returns-in_err-put_logs-clause-part : goal.returns-in_err-put_logs-clause-part
returns-in_err-put_logs-clause-part g c = λ before is.
    let under = c.loop-from.invariant.under before is in
    some_part text_of_log c.args.logs.now _ c.loop-from.from c.min-count.result _ _ before c.loop-from.waiting.items (between c.args.logs.now c.loop-from.from c.min-count.result) under (c.in_err-put_logs.ensures.part (before ++ under.front) under.written)

pub returns-in_err-put_logs-clause-run : goal.returns-in_err-put_logs-clause-run
returns-in_err-put_logs-clause-run g c =
    let exit = err_from_is_err_and c.from_residual-in_err-put_logs.result c.from_residual-in_err-put_logs.ensures.1 in
    rw (exit.1, exit.2) (ended_so g.O.Writer.takes _ _ _ _ [] c.in_err-put_logs.field-0.0 (some_ended g.O.Writer.takes text_of_log c.args.logs.now _ c.loop-from.from c.min-count.result _ _ _ c.loop-from.waiting.items _ c.in_err-put_logs.field-0.0 (between c.args.logs.now c.loop-from.from c.min-count.result) c.loop-from.invariant.going c.in_err-put_logs.ensures.run))

pub loop-from-preserved : goal.loop-from-preserved
loop-from-preserved g c = record {
  within = omega (arith, c.min-count.ensures, c.loop-from.invariant.within, c.loop-from-test.true);
  under = λ before is.
      let under = c.loop-from.invariant.under before is in
      some_put text_of_log c.args.logs.now _ c.loop-from.from c.min-count.result _ _ before c.loop-from.waiting.items _ (between c.args.logs.now c.loop-from.from c.min-count.result) under (c.in_ok-put_logs.ensures.put (before ++ under.front) under.written);
  later = omega (arith, c.put_logs.ensures.faults.later, c.loop-from.invariant.later);
  going = some_given g.O.Writer.takes text_of_log c.args.logs.now _ c.loop-from.from c.min-count.result _ _ _ c.loop-from.waiting.items _ (between c.args.logs.now c.loop-from.from c.min-count.result) c.loop-from.invariant.going c.in_ok-put_logs.ensures.run;
}

pub returns-clause-all : goal.returns-clause-all
returns-clause-all g c =
    on_ok_weaker c.write_waiting.result
    (λ all before is.
    let under = items_put text_of_log [] c.args.logs.now c.loop-from.from _ before c.loop-from.waiting.items (omega (arith, c.loop-from-test.false)) (c.loop-from.invariant.under before is) in
    all_behind _ _ before _ c.loop-from.waiting.items under (all (before ++ under.front) under.written))
    c.write_waiting.ensures.all

pub returns-clause-part : goal.returns-clause-part
returns-clause-part g c = λ before is.
    let under = items_put text_of_log [] c.args.logs.now c.loop-from.from _ before c.loop-from.waiting.items (omega (arith, c.loop-from-test.false)) (c.loop-from.invariant.under before is) in
    part_of_waiting _ _ before _ c.loop-from.waiting.items under (c.write_waiting.ensures.part (before ++ under.front) under.written)

pub returns-clause-run : goal.returns-clause-run
returns-clause-run g c =
    goes_last g.O.Writer.takes _ _ _ _ c.loop-from.waiting.items [] c.write_waiting.result
    (items_given g.O.Writer.takes text_of_log [] c.args.logs.now c.loop-from.from _ _ c.loop-from.waiting.items (omega (arith, c.loop-from-test.false)) c.loop-from.invariant.going)
    c.write_waiting.ensures.run
