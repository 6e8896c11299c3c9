use Rattle.std.proofs.Common.{◌≡◌, ◌<◌, ◌∙◌, ◌++◌, ◌∷◌, [], List, length, sym, ap, subst, arith}
use Rattle.std.specs.Prelude.{IfOk}
use Rattle.cast_driver.specs.declared.cast.Cast.{Cast}
use Rattle.cells.specs.declared.dtype.Dtype.{Dtype}
use Rattle.stack_driver.specs.Conditions.{IsView}
use Rattle.stack_driver.specs.Targets.{LeadTo}
use Rattle.stack_driver.specs.Views.{look_of}
use Rattle.stack_driver.specs.declared.view.View.{size-View}
use Rattle.stack_driver.specs.declared.view.View.TheVariants as view
use Rattle.stack_targets.specs.Landings.{Seen, ground_of, leaves_of}
use Rattle.stack_targets.proofs.Layers.{base_view, base_smaller, layer_view}
use Rattle.stack_targets.proofs.Meeting.{agrees}
use Rattle.stack_targets.proofs.Named.{nth, nth-Cast, nth-layer, layer_here, few-Cast, some-Cast, dtype_here, no_casts}
use Rattle.stack_targets.proofs.naming.+casts_at.Goals as goal

pub casts_at-requires : goal.casts_at-requires
casts_at-requires t c =
    let base = c.in-Cast.base in
    let at = c.get-base.ensures in
    let here : IsView (view.Cast c.in-Cast.to base) = subst IsView c.in-Cast.is c.requires.view in
    let small : size-View base < size-View c.args.v.now = subst (λ v. size-View base < size-View v) (sym c.in-Cast.is) (base_smaller c.in-Cast.to base) in
    let less : size-View c.get-base.result.now < size-View c.args.v.now = subst (λ v. size-View v < size-View c.args.v.now) (sym at) small in
    let some = some-Cast c.args.v.now c.in-Cast.to base c.args.leaf c.in-Cast.is c.requires.some in
    let few = few-Cast c.args.v.now c.in-Cast.to base 4294967295 c.in-Cast.is c.requires.few in
    ((let d = c.decreases in omega (arith, less, d)), (subst IsView (sym at) (base_view c.in-Cast.to base here), (subst (λ w. c.args.leaf < length (leaves_of w)) (sym at) some, subst (λ w. length (leaves_of w) < 4294967295) (sym at) few)))

pub casts_at-requires-in-Stack : goal.casts_at-requires-in-Stack
casts_at-requires-in-Stack t c =
    let f = layer_here c.args.v.now c.in-Stack.layers c.items-layers.result.now c.in-Stack.transform c.layer_of-place.result.0 c.index-layers-place.result c.in-Stack.is c.items-layers.ensures c.index-layers-place.is c.layer_of-place.ensures.inside in
    let here : IsView (view.Stack c.in-Stack.layers c.in-Stack.transform) = subst IsView c.in-Stack.is c.requires.view in
    let less = f.smaller in
    let n = f.few in (
      (let d = c.decreases in omega (arith, less, d)),
      (
        subst IsView (sym f.at) (layer_view c.in-Stack.layers c.in-Stack.transform c.layer_of-place.result.0 c.index-layers-place.result here f.inside),
        (subst (λ w. c.layer_of-place.result.1 < length (leaves_of w)) (sym c.index-layers-place.is) (c.layer_of-place.ensures.own_leaf c.index-layers-place.result), omega (arith, n, c.requires.few)),
      ),
    )

pub returns-in-Leaf-clause-leads : goal.returns-in-Leaf-clause-leads
returns-in-Leaf-clause-leads t c = subst (λ (casts : List Cast). LeadTo casts (look_of c.args.v.now).dtype) (sym c.new.ensures) (no_casts (look_of c.args.v.now).dtype)

pub returns-in_ok-casts_at-in-Cast-clause-value : goal.returns-in_ok-casts_at-in-Cast-clause-value
returns-in_ok-casts_at-in-Cast-clause-value t c =
    let base = c.in-Cast.base in
    let to = c.in-Cast.to in
    let at : c.get-base.result.now ≡ base = c.get-base.ensures in
    let inner = c.in_ok-casts_at-in-Cast.ensures.value ∙ ap (λ w. (nth w c.args.leaf).casts) at in
    let from : c.dtype.result ≡ (ground_of base).dtype = c.dtype.ensures ∙ ap (λ v. (look_of v).dtype) at ∙ sym (agrees base).dtype in
    let same : c.in_ok-casts_at-in-Cast.field-0 ++ record { from = c.dtype.result; to = to } ∷ [] ≡ (nth c.args.v.now c.args.leaf).casts =
    ap (λ (cs : List Cast). cs ++ record { from = c.dtype.result; to = to } ∷ []) inner
    ∙ ap (λ (d : Dtype). (nth base c.args.leaf).casts ++ record { from = d; to = to } ∷ []) from
    ∙ ap (λ (s : Seen). s.casts) (sym (nth-Cast c.args.v.now to base c.args.leaf c.in-Cast.is c.requires.some)) in
    subst (λ (cs : List Cast). IfOk c.with_cast.result (λ chain. chain ≡ cs)) same c.with_cast.ensures.value

pub returns-in-Stack-clause-value : goal.returns-in-Stack-clause-value
returns-in-Stack-clause-value t c =
    let same = nth-layer c.args.v.now c.in-Stack.layers c.items-layers.result.now c.in-Stack.transform c.args.leaf c.layer_of-place.result.0 c.layer_of-place.result.1 c.index-layers-place.result
    c.in-Stack.is c.items-layers.ensures c.index-layers-place.is c.layer_of-place.ensures in
    subst (λ (s : Seen). IfOk c.casts_at-in-Stack.result (λ chain. chain ≡ s.casts)) (sym same) c.casts_at-in-Stack.ensures.value

pub returns-in-Stack-clause-leads : goal.returns-in-Stack-clause-leads
returns-in-Stack-clause-leads t c =
    let f = layer_here c.args.v.now c.in-Stack.layers c.items-layers.result.now c.in-Stack.transform c.layer_of-place.result.0 c.index-layers-place.result c.in-Stack.is c.items-layers.ensures c.index-layers-place.is c.layer_of-place.ensures.inside in
    subst (λ (dtype : Dtype). IfOk c.casts_at-in-Stack.result (λ chain. LeadTo chain dtype))
    (dtype_here c.args.v.now c.in-Stack.layers c.in-Stack.transform c.layer_of-place.result.0 c.index-layers-place.result c.in-Stack.is c.requires.view f.inside f.at) c.casts_at-in-Stack.ensures.leads
