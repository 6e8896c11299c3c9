use Rattle.std.proofs.Common.{arith, ◌≡◌, ◌≢◌, ◌<◌, ◌∙◌, ℕ, ℤ, true, List, Result, Ok, Err, Some, None, length, get_or, sym, ap, subst}
use Rattle.std.specs.Prelude.{IsTrue, IfOk, IfErr}
use Rattle.cast_driver.specs.declared.Dtype.{Dtype}
use Rattle.transform_composition.specs.Bounds.{Bounds}
use Rattle.stack_driver.specs.Targets.{Target, LeadTo, has_index}
use Rattle.transform_composition.specs.Transforms.{DomainAndMaps}
use Rattle.transform_composition.specs.Values.{value_at}
use Rattle.stack_driver.specs.Views.{look_of, target_of}
use Rattle.stack_driver.specs.Conditions.{IsView, IsLast}
use Rattle.stack_driver.specs.declared.view.View.{View, size-View}
use Rattle.stack_driver.specs.declared.view.View.TheVariants as view
use Rattle.stack_driver.specs.declared.error.TargetError.{TargetError}
use Rattle.stack_driver.specs.declared.error.TargetError.TheVariants.{Uncovered, Memory}
use Rattle.stack_driver.proofs.Layers.{leaf_node, base_view, base_smaller, layer_view, layer_smaller}
use Rattle.stack_driver.proofs.Landing.{on-Leaf, on-Stack, on-layer, dims-Cast, layer_dtype}
use Rattle.stack_driver.proofs.targeting.+target.Goals as goal

pub leaf_target-requires-clause-node : goal.leaf_target-requires-clause-node
leaf_target-requires-clause-node t c = leaf_node c.in-Leaf.array c.in-Leaf.transform (subst IsView c.in-Leaf.is c.requires.view)

pub target-requires : goal.target-requires
target-requires t c =
    let base = c.in-Cast.base in
    let here : IsView (view.Cast c.in-Cast.to base) = subst IsView c.in-Cast.is c.requires.view in
    let small : size-View base < size-View c.args.v.now = subst (λ v. size-View base < size-View v) (sym c.in-Cast.is) (base_smaller c.in-Cast.to base) in
    let at = c.get-base.ensures in
    let less : size-View c.get-base.result.now < size-View c.args.v.now = subst (λ v. size-View v < size-View c.args.v.now) (sym at) small in
    let inside : IsTrue (has_index (look_of base).dims c.args.index.now) = subst (λ (ds : List Bounds). IsTrue (has_index ds c.args.index.now)) (dims-Cast c.args.v.now c.in-Cast.to base c.in-Cast.is) c.requires.inside in
    ((let d = c.decreases in omega (arith, less, d)), (subst IsView (sym at) (base_view c.in-Cast.to base here), subst (λ v. IsTrue (has_index (look_of v).dims c.args.index.now)) (sym at) inside))

pub returns-in-Leaf-clause-err : goal.returns-in-Leaf-clause-err
returns-in-Leaf-clause-err t c =
    subst (λ (z : Result Target TargetError). IfErr c.leaf_target.result (λ e. e ≢ Memory → z ≡ Err e)) (sym (on-Leaf c.args.v.now c.in-Leaf.array c.in-Leaf.transform c.args.index.now c.in-Leaf.is)) c.leaf_target.ensures.err

-- the layer that was found, and where the cell lies by it
record Found (v : View) (layers : List View) (u : DomainAndMaps) (x inner deref : List ℤ) (k : ℕ) (d : View) : Type 0 where
  at : d ≡ get_or layers k d
  inside : k < length layers
  has : has_index (look_of d).dims deref ≡ true
  lands : target_of v x ≡ (look_of d).target deref

found : (v : View) (layers items : List View) (u : DomainAndMaps) (x inner deref : List ℤ) (k : ℕ) (d : View) → v ≡ view.Stack layers u → items ≡ layers → d ≡ get_or items k d → deref ≡ inner
    → inner ≡ value_at u x → IsLast items inner (Some k) → Found v layers u x inner deref k d
found v layers items u x inner deref k d is same at here value last =
    let there : IsLast layers inner (Some k) = subst (λ ls. IsLast ls inner (Some k)) same last in
    let place : d ≡ get_or layers k d = at ∙ ap (λ ls. get_or ls k d) same in
    record {
      at = place;
      inside = there.0;
      has = ap (λ w. has_index (look_of w).dims deref) place ∙ ap (λ y. has_index (look_of (get_or layers k d)).dims y) here ∙ there.1 d;
      lands = on-layer v layers u x inner k d is value there ∙ ap (λ w. (look_of w).target inner) (sym place) ∙ ap (look_of d).target (sym here);
    }

pub target-requires-in-Ok : goal.target-requires-in-Ok
target-requires-in-Ok t c =
    let f = found c.args.v.now c.in-Stack.layers c.items-layers.result.now c.in-Stack.transform c.args.index.now c.in-Ok.inner.items c.deref.result.now c.in-Ok.place c.index-layers-place.result c.in-Stack.is c.items-layers.ensures
    c.index-layers-place.is c.deref.ensures.value c.in-Ok.ensures.ok.0 c.in-Ok.ensures.ok.1 in
    let here : IsView (view.Stack c.in-Stack.layers c.in-Stack.transform) = subst IsView c.in-Stack.is c.requires.view in
    let small : size-View c.index-layers-place.result < size-View c.args.v.now =
    subst (λ v. size-View c.index-layers-place.result < size-View v) (sym c.in-Stack.is)
    (subst (λ v. size-View v < size-View (view.Stack c.in-Stack.layers c.in-Stack.transform)) (sym f.at) (layer_smaller c.in-Stack.layers c.in-Stack.transform c.in-Ok.place c.index-layers-place.result f.inside)) in
    ((let d = c.decreases in omega (arith, small, d)), (subst IsView (sym f.at) (layer_view c.in-Stack.layers c.in-Stack.transform c.in-Ok.place c.index-layers-place.result here f.inside), f.has))

pub returns-in-Ok-clause-ok : goal.returns-in-Ok-clause-ok
returns-in-Ok-clause-ok t c =
    let f = found c.args.v.now c.in-Stack.layers c.items-layers.result.now c.in-Stack.transform c.args.index.now c.in-Ok.inner.items c.deref.result.now c.in-Ok.place c.index-layers-place.result c.in-Stack.is c.items-layers.ensures
    c.index-layers-place.is c.deref.ensures.value c.in-Ok.ensures.ok.0 c.in-Ok.ensures.ok.1 in
    subst (λ (z : Result Target TargetError). IfOk c.target-in-Ok.result (λ t'. z ≡ Ok t')) (sym f.lands) c.target-in-Ok.ensures.ok

pub returns-in-Ok-clause-err : goal.returns-in-Ok-clause-err
returns-in-Ok-clause-err t c =
    let f = found c.args.v.now c.in-Stack.layers c.items-layers.result.now c.in-Stack.transform c.args.index.now c.in-Ok.inner.items c.deref.result.now c.in-Ok.place c.index-layers-place.result c.in-Stack.is c.items-layers.ensures
    c.index-layers-place.is c.deref.ensures.value c.in-Ok.ensures.ok.0 c.in-Ok.ensures.ok.1 in
    subst (λ (z : Result Target TargetError). IfErr c.target-in-Ok.result (λ e. e ≢ Memory → z ≡ Err e)) (sym f.lands) c.target-in-Ok.ensures.err

pub returns-in-Ok-clause-casts : goal.returns-in-Ok-clause-casts
returns-in-Ok-clause-casts t c =
    let f = found c.args.v.now c.in-Stack.layers c.items-layers.result.now c.in-Stack.transform c.args.index.now c.in-Ok.inner.items c.deref.result.now c.in-Ok.place c.index-layers-place.result c.in-Stack.is c.items-layers.ensures
    c.index-layers-place.is c.deref.ensures.value c.in-Ok.ensures.ok.0 c.in-Ok.ensures.ok.1 in
    let here : IsView (view.Stack c.in-Stack.layers c.in-Stack.transform) = subst IsView c.in-Stack.is c.requires.view in
    let same : (look_of c.index-layers-place.result).dtype ≡ (look_of c.args.v.now).dtype =
    ap (λ w. (look_of w).dtype) f.at ∙ layer_dtype c.in-Stack.layers c.in-Stack.transform c.in-Ok.place c.index-layers-place.result here f.inside ∙ ap (λ w. (look_of w).dtype) (sym c.in-Stack.is) in
    subst (λ (dtype : Dtype). IfOk c.target-in-Ok.result (λ t'. LeadTo t'.casts dtype)) same c.target-in-Ok.ensures.casts

pub returns-in-Err-clause-err : goal.returns-in-Err-clause-err
returns-in-Err-clause-err t c = λ wanted.
    let e = c.in-Err.ensures.err wanted in
    let none = subst (λ (ls : List View). IsLast ls (value_at c.in-Stack.transform c.args.index.now) None) c.items-layers.ensures e.1 in
    on-Stack c.args.v.now c.in-Stack.layers c.in-Stack.transform c.args.index.now c.in-Stack.is ∙ none (Err Uncovered) ∙ ap Err (sym e.0)
