use Rattle.std.proofs.Common.{◌<◌, ◌∙◌, length, sym, ap, subst, arith}
use Rattle.stack_targets.specs.Landings.{Seen, leaves_of}
use Rattle.stack_targets.proofs.Named.{nth, nth-Cast, nth-layer, layer_here}
use Rattle.stack_targets.proofs.naming.+array_at.Goals as goal

pub array_at-requires-in-Stack : goal.array_at-requires-in-Stack
array_at-requires-in-Stack t c =
    let f = layer_here c.args.v.now c.in-Stack.layers c.items-layers.result.now c.in-Stack.transform c.layer_of-place.result.0 c.index-layers-place.result c.in-Stack.is c.items-layers.ensures c.index-layers-place.is c.layer_of-place.ensures.inside in
    let less = f.smaller in
    let n = f.few in
    ((let d = c.decreases in omega (arith, less, d)), (subst (λ w. c.layer_of-place.result.1 < length (leaves_of w)) (sym c.index-layers-place.is) (c.layer_of-place.ensures.own_leaf c.index-layers-place.result), omega (arith, n, c.requires.few)))

pub returns-in-Cast : goal.returns-in-Cast
returns-in-Cast t c =
    c.array_at.ensures ∙ ap (λ w. (nth w c.args.leaf).array) c.get.ensures ∙ ap (λ (s : Seen). s.array) (sym (nth-Cast c.args.v.now c.in-Cast.to c.in-Cast.base c.args.leaf c.in-Cast.is c.requires.some))

pub returns-in-Stack : goal.returns-in-Stack
returns-in-Stack t c =
    c.array_at-in-Stack.ensures
    ∙ ap (λ (s : Seen). s.array) (sym (nth-layer c.args.v.now c.in-Stack.layers c.items-layers.result.now c.in-Stack.transform c.args.leaf c.layer_of-place.result.0 c.layer_of-place.result.1 c.index-layers-place.result
    c.in-Stack.is c.items-layers.ensures c.index-layers-place.is c.layer_of-place.ensures))
