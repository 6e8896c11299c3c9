use Rattle.std.proofs.Common.{◌∙◌, Some, Ok, rules, refl, sym, ap, subst}
use Rattle.sessions.specs.declared.Body.{Body}
use Rattle.history.specs.Acts.{on_leaf, resolves, act_of}
use Rattle.history.specs.Answers as old
use Rattle.history.specs.Lines.{resolving}
use Rattle.indexmap.specs.IndexMap.{get_by_text}
use Rattle.session_openings.proofs.ResolveLaws.{asked_act, no_array, no_transaction}
use Rattle.sessions.specs.Standing.{transaction_in}
use Rattle.sessions.specs.Told.{IsAnswerTo}
use Rattle.sessions.proofs.Laws.{refusal, outside_some, outside_none, answer_at, if_ok_map, if_ok_both, if_err_map}
use Rattle.stack_driver.specs.Renewed.{array_of}
use Rattle.session_openings.proofs.resolving.asked.Goals as goal

pub returns-then-is_some-clause-err : goal.returns-then-is_some-clause-err
returns-then-is_some-clause-err c = refusal _ _ old.in_transaction (outside_some c.args.txn.now _ (search rules)) refl

pub returns-in-Ok-clause-view : goal.returns-in-Ok-clause-view
returns-in-Ok-clause-view c = if_ok_map c.of_array.result c.of_array.ensures.view (λ v same. c.in-Ok.ensures.view ∙ ap Some (sym same))

pub returns-in-Ok-clause-array : goal.returns-in-Ok-clause-array
returns-in-Ok-clause-array c =
    if_ok_both c.of_array.result c.of_array.ensures.view c.of_array.ensures.array
    (λ v same p. (p.0, p.1, p.2, asked_act (get_by_text c.args.names.now) (transaction_in c.args.txn.now) c.args.name.now v p.0 (no_transaction c.args.txn.now (search rules)) (c.in-Ok.ensures.view ∙ ap Some (sym same)) p.1))

pub returns-in-Ok-clause-err : goal.returns-in-Ok-clause-err
returns-in-Ok-clause-err c =
    if_err_map c.of_array.result c.of_array.ensures.err
    (λ b p.
    subst (λ (x : Body). IsAnswerTo (act_of (get_by_text c.args.names.now) (transaction_in c.args.txn.now) (resolving c.args.name.now)) x) (sym p.1)
    (no_array (get_by_text c.args.names.now) (transaction_in c.args.txn.now) c.args.name.now c.in-Ok.view (no_transaction c.args.txn.now (search rules)) c.in-Ok.ensures.view p.0))

pub returns-in-Err-clause-err : goal.returns-in-Err-clause-err
returns-in-Err-clause-err c =
    answer_at _ _ c.in-Err.body (outside_none c.args.txn.now _ (search rules)) (c.in-Err.ensures.err (λ view. on_leaf (array_of view) (λ array. Ok (resolves c.args.name.now view array))))
