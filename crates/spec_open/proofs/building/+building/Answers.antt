use Rattle.std.proofs.Common.{◌≡◌, ◌≢◌, ◌∙◌, ◌<◌, ℕ, List, Result, Ok, Err, length, sym, ap, subst, rules, arith}
use Rattle.std.specs.Prelude.{IfOk, IfErr}
use Rattle.std.specs.List.{AllByRecursion}
use Rattle.stack_driver.specs.Conditions.{IsView}
use Rattle.stack_driver.specs.declared.view.View.{View}
use Rattle.spec_open.specs.Built.{built}
use Rattle.spec_open.specs.Conditions.{IsTree}
use Rattle.spec_open.specs.declared.error.BuildError.{BuildError}
use Rattle.spec_open.specs.declared.error.BuildError.TheVariants.{Memory}
use Rattle.spec_open.proofs.BuiltLaws.{built-Leaf, built-length, none_built, more_built, not_built, built_all, one_more}
use denote.Param.Weighed.{most}
use Rattle.spec_open.specs.declared.tree.Tree.{size-Tree}
use Rattle.spec_open.proofs.Trees.{leaf_node, stack_node, every_base, every_layer, base_smaller, layers_smaller}
use Rattle.spec_open.proofs.building.+building.Goals as goal

pub build-bounds-arrays-leaf : goal.build-bounds-arrays-leaf
build-bounds-arrays-leaf t c =
    leaf_node (length c.args.arrays.now) c.in-Leaf.leaf c.in-Leaf.transform c.in-Leaf.at (subst (IsTree (length c.args.arrays.now)) c.in-Leaf.is c.requires)

pub build-build-requires : goal.build-build-requires
build-build-requires t c =
    let small : size-Tree c.in-Cast.base < size-Tree c.args.tree.now =
    subst (λ v. size-Tree c.in-Cast.base < size-Tree v) (sym c.in-Cast.is) (base_smaller c.in-Cast.to c.in-Cast.base c.in-Cast.transform c.in-Cast.at) in
    let less : size-Tree c.get.result.now < size-Tree c.args.tree.now = subst (λ v. size-Tree v < size-Tree c.args.tree.now) (sym c.get.ensures) small in (
      (let d = c.decreases in omega (arith, less, d)),
      subst (IsTree (length c.args.arrays.now)) (sym c.get.ensures)
          (every_base (length c.args.arrays.now) c.in-Cast.to c.in-Cast.base c.in-Cast.transform c.in-Cast.at (subst (IsTree (length c.args.arrays.now)) c.in-Cast.is c.requires)),
    )

pub build-build_layers-requires : goal.build-build_layers-requires
build-build_layers-requires t c =
    let small : most size-Tree c.in-Stack.layers < size-Tree c.args.tree.now =
    subst (λ v. most size-Tree c.in-Stack.layers < size-Tree v) (sym c.in-Stack.is) (layers_smaller c.in-Stack.layers c.in-Stack.dtype c.in-Stack.transform c.in-Stack.at) in
    let less : most size-Tree c.items-in-Stack.result.now < size-Tree c.args.tree.now = subst (λ ts. most size-Tree ts < size-Tree c.args.tree.now) (sym c.items-in-Stack.ensures) small in (
      (let d = c.decreases in omega (arith, less, d)),
      subst (AllByRecursion (IsTree (length c.args.arrays.now))) (sym c.items-in-Stack.ensures)
          (every_layer (length c.args.arrays.now) c.in-Stack.layers c.in-Stack.dtype c.in-Stack.transform c.in-Stack.at (subst (IsTree (length c.args.arrays.now)) c.in-Stack.is c.requires)),
    )

pub build-stack_view-requires-clause-some : goal.build-stack_view-requires-clause-some
build-stack_view-requires-clause-some t c =
    let node = stack_node (length c.args.arrays.now) c.in-Stack.layers c.in-Stack.dtype c.in-Stack.transform c.in-Stack.at (subst (IsTree (length c.args.arrays.now)) c.in-Stack.is c.requires) in
    let count = built-length (built c.args.arrays.now) c.in-Stack.layers c.items-in-Stack.result.now c.in_ok-layers-in-Stack.layers.items c.items-in-Stack.ensures c.in_ok-layers-in-Stack.ensures.value in
    omega (arith, node.0, count)

pub build-stack_view-requires-clause-few : goal.build-stack_view-requires-clause-few
build-stack_view-requires-clause-few t c =
    let node = stack_node (length c.args.arrays.now) c.in-Stack.layers c.in-Stack.dtype c.in-Stack.transform c.in-Stack.at (subst (IsTree (length c.args.arrays.now)) c.in-Stack.is c.requires) in
    let count = built-length (built c.args.arrays.now) c.in-Stack.layers c.items-in-Stack.result.now c.in_ok-layers-in-Stack.layers.items c.items-in-Stack.ensures c.in_ok-layers-in-Stack.ensures.value in
    omega (arith, node.1, count)

pub build-returns-in-Leaf-clause-value : goal.build-returns-in-Leaf-clause-value
build-returns-in-Leaf-clause-value t c =
    let less = leaf_node (length c.args.arrays.now) c.in-Leaf.leaf c.in-Leaf.transform c.in-Leaf.at (subst (IsTree (length c.args.arrays.now)) c.in-Leaf.is c.requires) in
    subst (λ (z : Result View BuildError). IfOk c.leaf_view.result (λ v. z ≡ Ok v))
    (built-Leaf c.args.arrays.now c.args.tree.now c.in-Leaf.leaf c.in-Leaf.transform c.in-Leaf.at c.items.result.now c.index-arrays-leaf.result c.in-Leaf.is less c.index-arrays-leaf.is c.items.ensures)
    c.leaf_view.ensures.value

pub build-returns-in-Leaf-clause-causes : goal.build-returns-in-Leaf-clause-causes
build-returns-in-Leaf-clause-causes t c =
    let less = leaf_node (length c.args.arrays.now) c.in-Leaf.leaf c.in-Leaf.transform c.in-Leaf.at (subst (IsTree (length c.args.arrays.now)) c.in-Leaf.is c.requires) in
    subst (λ (z : Result View BuildError). IfErr c.leaf_view.result (λ e. e ≢ Memory → z ≡ Err e))
    (built-Leaf c.args.arrays.now c.args.tree.now c.in-Leaf.leaf c.in-Leaf.transform c.in-Leaf.at c.items.result.now c.index-arrays-leaf.result c.in-Leaf.is less c.index-arrays-leaf.is c.items.ensures)
    c.leaf_view.ensures.causes

pub build_layers-loop-layer-preserved : goal.build_layers-loop-layer-preserved
build_layers-loop-layer-preserved t c =
    rw c.in_ok-push.ensures.items (record {
      so = more_built (built c.args.arrays.now) c.args.layers.now c.loop-layer.layer-index c.loop-layer.views.items c.layer-item.result c.in_ok-view.view c.loop-layer-test.true
          (ap (built c.args.arrays.now) (sym c.layer-item.is) ∙ c.in_ok-view.ensures.value) c.loop-layer.invariant.so;
      shown = one_more IsView c.loop-layer.views.items c.in_ok-view.view c.loop-layer.invariant.shown c.in_ok-view.ensures.view;
    })
