use Rattle.std.proofs.Common.{rules, ◌≡◌, ◌≢◌, ◌<◌, ◌∙◌, ◌+◌, List, Result, Ok, Err, None, length, sym, ap, subst, arith}
use Rattle.std.specs.Prelude.{IsTrue, IfOk, IfErr, IfSome}
use Rattle.index_intervals.specs.Bounds.{Bounds}
use Rattle.index_transform.specs.Values.{value_at}
use Rattle.stack_driver.specs.Targets.{has_index}
use Rattle.stack_driver.specs.Views.{look_of}
use Rattle.stack_driver.specs.Conditions.{IsView}
use Rattle.stack_driver.specs.declared.view.View.{View, size-View}
use Rattle.stack_driver.specs.declared.view.View.TheVariants as view
use Rattle.stack_driver.specs.declared.error.TargetError.{TargetError}
use Rattle.stack_driver.specs.declared.error.TargetError.TheVariants.{Uncovered, Memory}
use Rattle.stack_targets.specs.Axes.{IsAxis}
use Rattle.stack_targets.specs.Landings.{Landing, IsLastLayer, IsPut, behind_leaves, leaves_of}
use Rattle.stack_targets.specs.Numberings.{numbering_of}
use Rattle.stack_targets.proofs.AxisLaws.{axis_is}
use Rattle.stack_targets.proofs.Layers.{leaf_node, base_view, base_smaller, layer_view, layer_smaller}
use Rattle.stack_targets.proofs.Reached.{on-Leaf, on-Stack, dims-Cast, few-Cast, found, lands_there, leaf_below}
use Rattle.stack_targets.proofs.NumberLaws.{axis_here, base_here, below_here, first_here}
use Rattle.stack_targets.proofs.landing.+land.Goals as goal

pub covering-requires-clause-axis : goal.covering-requires-clause-axis
covering-requires-clause-axis t c =
    let rank = length c.in-Stack.transform.maps in
    subst (λ (ls : List View). IfSome c.axis.result (IsAxis rank ls)) (sym c.items-layers.ensures)
    (axis_is rank c.in-Stack.layers c.axis.result (c.axis.ensures ∙ axis_here c.args.v.now c.in-Stack.layers c.in-Stack.transform c.args.numbering.now c.in-Stack.is c.requires.numbered))

pub land_in_array-requires-clause-node : goal.land_in_array-requires-clause-node
land_in_array-requires-clause-node t c = leaf_node c.in-Leaf.array c.in-Leaf.transform (subst IsView c.in-Leaf.is c.requires.view)

pub returns-in-Leaf-clause-err : goal.returns-in-Leaf-clause-err
returns-in-Leaf-clause-err t c =
    subst (λ (z : Result Landing TargetError). IfErr c.land_in_array.result (λ e. e ≢ Memory → z ≡ Err e)) (sym (on-Leaf c.args.v.now c.in-Leaf.array c.in-Leaf.transform c.args.index.now c.in-Leaf.is)) c.land_in_array.ensures.err

pub land-requires : goal.land-requires
land-requires t c =
    let base = c.in-Cast.base in
    let here : IsView (view.Cast c.in-Cast.to base) = subst IsView c.in-Cast.is c.requires.view in
    let small : size-View base < size-View c.args.v.now = subst (λ v. size-View base < size-View v) (sym c.in-Cast.is) (base_smaller c.in-Cast.to base) in
    let at = c.get.ensures in
    let less : size-View c.get.result.now < size-View c.args.v.now = subst (λ v. size-View v < size-View c.args.v.now) (sym at) small in
    let inside : IsTrue (has_index (look_of base).dims c.args.index.now) = subst (λ (ds : List Bounds). IsTrue (has_index ds c.args.index.now)) (dims-Cast c.args.v.now c.in-Cast.to base c.in-Cast.is) c.requires.inside in
    let few : length (leaves_of base) < 4294967295 = few-Cast c.args.v.now c.in-Cast.to base c.in-Cast.is c.requires.few in
    ((let d = c.decreases in omega (arith, less, d)), (subst IsView (sym at) (base_view c.in-Cast.to base here), (subst (λ v. IsTrue (has_index (look_of v).dims c.args.index.now)) (sym at) inside, (subst (λ v. length (leaves_of v) < 4294967295) (sym at) few, base_here c.args.v.now c.in-Cast.to base c.args.numbering.now c.in-Cast.is c.requires.numbered ∙ ap numbering_of (sym at)))))

pub returns-in_default-clause-err : goal.returns-in_default-clause-err
returns-in_default-clause-err t c = λ wanted.
    let none = subst (λ (ls : List View). IsLastLayer ls (value_at c.in-Stack.transform c.args.index.now) None) c.items-layers.ensures (c.covering.ensures.none c.in_default.is) in
    on-Stack c.args.v.now c.in-Stack.layers c.in-Stack.transform c.args.index.now c.in-Stack.is ∙ none (Err Uncovered)

pub land-requires-in-Stack : goal.land-requires-in-Stack
land-requires-in-Stack t c =
    let f = found c.args.v.now c.in-Stack.layers c.items-layers.result.now c.in-Stack.transform c.args.index.now c.covering.new.inner c.in-Some.place c.index-layers-place.result c.in-Stack.is c.items-layers.ensures
    c.index-layers-place.is c.in-Some.ensures.value c.in-Some.ensures.some in
    let here : IsView (view.Stack c.in-Stack.layers c.in-Stack.transform) = subst IsView c.in-Stack.is c.requires.view in
    let small : size-View c.index-layers-place.result < size-View c.args.v.now =
    subst (λ v. size-View c.index-layers-place.result < size-View v) (sym c.in-Stack.is)
    (subst (λ v. size-View v < size-View (view.Stack c.in-Stack.layers c.in-Stack.transform)) (sym f.at) (layer_smaller c.in-Stack.layers c.in-Stack.transform c.in-Some.place c.index-layers-place.result f.inside)) in
    let few : length (leaves_of c.index-layers-place.result) < 4294967295 = let n = f.few in omega (arith, n, c.requires.few) in
    let numbered : c.below.result.now ≡ numbering_of c.index-layers-place.result =
    c.below.ensures ∙ below_here c.args.v.now c.in-Stack.layers c.in-Stack.transform c.args.numbering.now c.in-Some.place c.index-layers-place.result c.in-Stack.is c.requires.numbered f.inside ∙ ap numbering_of (sym f.at) in
    ((let d = c.decreases in omega (arith, small, d)), (subst IsView (sym f.at) (layer_view c.in-Stack.layers c.in-Stack.transform c.in-Some.place c.index-layers-place.result here f.inside), (f.has, (few, numbered))))

pub returns-in-Leaf-clause-ok : goal.returns-in-Leaf-clause-ok
returns-in-Leaf-clause-ok t c =
    subst (λ (z : Result Landing TargetError). IfOk c.land_in_array.result (λ leaf. IsPut z leaf c.args.numbers.now.items c.land_in_array.new.numbers.items)) (sym (on-Leaf c.args.v.now c.in-Leaf.array c.in-Leaf.transform c.args.index.now c.in-Leaf.is))
    c.land_in_array.ensures.ok

pub overflow_add-result : goal.overflow_add-result
overflow_add-result t c =
    let f = found c.args.v.now c.in-Stack.layers c.items-layers.result.now c.in-Stack.transform c.args.index.now c.covering.new.inner c.in-Some.place c.index-layers-place.result c.in-Stack.is c.items-layers.ensures
    c.index-layers-place.is c.in-Some.ensures.value c.in-Some.ensures.some in
    let put = c.in-Ok.ensures.ok in
    let below = leaf_below c.index-layers-place.result c.covering.new.inner (record { leaf = c.in-Ok.leaf; index = put.index }) put.landed in
    let n = f.few in
    let before = c.first_leaf.ensures ∙ first_here c.args.v.now c.in-Stack.layers c.in-Stack.transform c.args.numbering.now c.in-Some.place c.in-Stack.is c.requires.numbered c.requires.few f.inside in
    let small : c.first_leaf.result + c.in-Ok.leaf < 4294967296 = omega (arith, before, below, n, c.requires.few) in
    search (rules, small)

pub returns-in-Ok-clause-ok : goal.returns-in-Ok-clause-ok
returns-in-Ok-clause-ok t c =
    let f = found c.args.v.now c.in-Stack.layers c.items-layers.result.now c.in-Stack.transform c.args.index.now c.covering.new.inner c.in-Some.place c.index-layers-place.result c.in-Stack.is c.items-layers.ensures
    c.index-layers-place.is c.in-Some.ensures.value c.in-Some.ensures.some in
    let put = c.in-Ok.ensures.ok in
    let n = f.few in
    let before = c.first_leaf.ensures ∙ first_here c.args.v.now c.in-Stack.layers c.in-Stack.transform c.args.numbering.now c.in-Some.place c.in-Stack.is c.requires.numbered c.requires.few f.inside in
    record {
      index = put.index;
      landed = lands_there _ _ _ (record { leaf = c.in-Ok.leaf; index = put.index }) f.lands put.landed ∙ ap (λ m. Ok (record { leaf = m + c.in-Ok.leaf; index = put.index })) (sym before);
      put = put.put;
    }

pub returns-in-Err-clause-err : goal.returns-in-Err-clause-err
returns-in-Err-clause-err t c = λ wanted.
    let f = found c.args.v.now c.in-Stack.layers c.items-layers.result.now c.in-Stack.transform c.args.index.now c.covering.new.inner c.in-Some.place c.index-layers-place.result c.in-Stack.is c.items-layers.ensures
    c.index-layers-place.is c.in-Some.ensures.value c.in-Some.ensures.some in
    f.lands ∙ ap (behind_leaves _) (c.in-Err.ensures.err wanted)
