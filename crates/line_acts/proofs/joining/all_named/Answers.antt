use Rattle.std.proofs.Common.{◌∙◌, subst}
use Rattle.history.specs.Acts.{Asked, named}
use Rattle.history.specs.Answers.{Text}
use Rattle.indexmap.specs.IndexMap.{get_by_text}
use Rattle.line_acts.specs.Refused.{IsAnswerTo}
use Rattle.stack_driver.specs.declared.view.View.{View}
use Rattle.line_acts.proofs.JoinLaws.{refused_at, named_all, told_through}
use Rattle.line_acts.proofs.joining.all_named.Goals as goal

pub returns-clause-value : goal.returns-clause-value
returns-clause-value c = λ next. c.loop-layer.invariant.told next ∙ named_all (get_by_text c.args.names.now) c.args.layers.now c.loop-layer.layer-index c.loop-layer.views.items next c.loop-layer-test.false

pub returns-in-Err-clause-err : goal.returns-in-Err-clause-err
returns-in-Err-clause-err c = λ next.
    told_through _ _ c.in-Err.body (c.loop-layer.invariant.told next)
    (refused_at (get_by_text c.args.names.now) c.args.layers.now c.loop-layer.layer-index c.layer-item.result c.in-Err.body c.loop-layer.views.items c.loop-layer-test.true c.layer-item.is
    (subst (λ (n : Text). (more : View → Asked) → IsAnswerTo (named n (get_by_text c.args.names.now n) more) c.in-Err.body) c.items.ensures c.in-Err.ensures.err) next)
