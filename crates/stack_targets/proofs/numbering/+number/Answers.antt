use Rattle.std.proofs.Common.{◌≡◌, ◌∙◌, length, map, ap, subst}
use Rattle.std.specs.Prelude.{IfOk}
use Rattle.stack_targets.specs.Axes.{dims_of}
use Rattle.stack_targets.specs.Numberings.{numbering_of, stack_of}
use Rattle.stack_targets.specs.declared.numbering.Numbering.{Numbering}
use Rattle.stack_targets.proofs.NumberLaws.{here-Leaf, here-Cast, here-Stack}
use Rattle.stack_targets.proofs.numbering.+number.Goals as goal

pub number-returns-in-Leaf : goal.number-returns-in-Leaf
number-returns-in-Leaf t c = here-Leaf c.args.v.now c.in-Leaf.array c.in-Leaf.transform c.in-Leaf.is

pub number-returns-in-Cast : goal.number-returns-in-Cast
number-returns-in-Cast t c =
    subst (λ (n : Numbering). IfOk c.number.result (λ m. m ≡ n)) (ap numbering_of c.get.ensures ∙ here-Cast c.args.v.now c.in-Cast.to c.in-Cast.base c.in-Cast.is) c.number.ensures

pub number-returns-in_ok-number_all-in-Stack : goal.number-returns-in_ok-number_all-in-Stack
number-returns-in_ok-number_all-in-Stack t c =
    subst (λ (n : Numbering). IfOk c.stacked.result (λ m. m ≡ n))
    ((λ i. stack_of (length c.in-Stack.transform.maps) (map dims_of (c.items-layers.ensures i)) ((c.in_ok-number_all-in-Stack.ensures ∙ ap (map numbering_of) c.items-layers.ensures) i))
    ∙ here-Stack c.args.v.now c.in-Stack.layers c.in-Stack.transform c.in-Stack.is) c.stacked.ensures
