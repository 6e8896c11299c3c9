use Rattle.std.proofs.Common.{◌≡◌, ◌∙◌, ℕ, ℤ, List, map, Option, Some, None, sym, subst, rules}
use Rattle.std.specs.Prelude.{IfSome}
use Rattle.index_transform.specs.Values.{value_at}
use Rattle.stack_driver.specs.declared.view.View.{View}
use Rattle.stack_targets.specs.Axes.{IsAxis}
use Rattle.stack_targets.specs.Landings.{ground_of, IsLastLayer}
use Rattle.stack_targets.proofs.Layers.{none_lands}
use Rattle.stack_targets.proofs.landing.covering.Goals as goal

pub returns-then-not-finite_values-clause-none : goal.returns-then-not-finite_values-clause-none
returns-then-not-finite_values-clause-none c = λ same found.
    none_lands (value_at c.args.transform.now c.args.index.now) (c.finite_values.ensures.infinite (search rules)) 0 (map ground_of c.args.layers.now) found

pub end_of-end-requires : goal.end_of-end-requires
end_of-end-requires c = subst (λ n. IfSome c.args.axis (IsAxis n c.args.layers.now)) (sym (c.finite_values.auto.out ∙ c.requires.room)) c.requires.axis

by_result : (layers : List View) (x y : List ℤ) (o : Option ℕ) → x ≡ y → IsLastLayer layers x o → IfSome o (λ place. IsLastLayer layers y (Some place))
by_result layers x y None e h = tt
by_result layers x y (Some k) e h = subst (λ z. IsLastLayer layers z (Some k)) e h

pub returns-clause-some : goal.returns-clause-some
returns-clause-some c =
    by_result c.args.layers.now c.finite_values.new.out (value_at c.args.transform.now c.args.index.now) c.last_with.result (c.finite_values.ensures.finite (search rules)) c.last_with.ensures
