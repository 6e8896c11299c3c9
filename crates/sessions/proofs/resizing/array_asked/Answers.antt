use Rattle.std.proofs.Common.{rules, refl}
use Rattle.sessions.proofs.ResizeLaws.{stored_asked}
use Rattle.session_turns.proofs.Laws.{refusal, outside_some, outside_none, answer_at, named_none}
use Rattle.history.specs.Acts.{on_leaf, on_stored}
use Rattle.history.specs.Answers as old
use Rattle.stack_driver.specs.Renewed.{array_of}
use Rattle.sessions.proofs.resizing.array_asked.Goals as goal

pub returns-then-is_some-clause-err : goal.returns-then-is_some-clause-err
returns-then-is_some-clause-err c = refusal _ _ old.in_transaction (outside_some c.args.txn.now _ (search rules)) refl

pub returns-in-Some-clause-asked : goal.returns-in-Some-clause-asked
returns-in-Some-clause-asked c = stored_asked _ c.args.name.now c.in-Some.view.now c.args.shape.now c.stored_array.result (search rules) c.requires.sizes c.stored_array.ensures.array

pub returns-in-None-clause-err : goal.returns-in-None-clause-err
returns-in-None-clause-err c = answer_at _ _ c.unknown.result (outside_none c.args.txn.now _ (search rules)) (named_none c.args.name.now _ (λ view. on_leaf (array_of view) (λ array. on_stored array c.args.shape.now)) c.unknown.result (search rules) (c.unknown.ensures (λ view. on_leaf (array_of view) (λ array. on_stored array c.args.shape.now))))
