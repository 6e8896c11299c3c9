use Rattle.std.proofs.Common.{◌∙◌, ◌++◌, ◌∷◌, [], ℕ, List, cond, sym, ap}
use Rattle.std.specs.List.{list_all}
use Rattle.stack_driver.specs.Stacks.{has_label}
use Rattle.stack_driver.proofs.StackRules.{stacked_labels-step}
use Rattle.stack_driver.proofs.stacking.stacked_labels.Goals as goal

pub loop-k-preserved : goal.loop-k-preserved
loop-k-preserved c =
    let front = c.loop-k.all.items in
    c.in_ok-push.ensures.items ∙ ap (λ (l : List ℕ). front ++ l ∷ []) c.in_ok-kept_label.ensures ∙ ap (λ (ls : List (List ℕ)). ls ++ cond (list_all (has_label c.loop-k.k c.index-labels-k.result) c.args.layers.now) c.index-labels-k.result [] ∷ []) c.loop-k.invariant
    ∙ sym (stacked_labels-step c.args.labels.now c.loop-k.k c.index-labels-k.result c.args.layers.now c.loop-k-test.true c.index-labels-k.is)
