use Rattle.std.proofs.Common.{◌≡◌, ◌∙◌, ◌<◌, ◌++◌, ◌∷◌, [], ℤ, List, length, get_or, to_z, of_z, w64, sym, ap, arith}
use Rattle.std.proofs.lemmas.Int.{ints}
use Rattle.index_intervals.specs.Bounds.{Bounds}
use Rattle.index_transform.proofs.Laws.{get_or-inside}
use Rattle.downsample_view.specs.Groups.{new_dim}
use Rattle.downsample_view.proofs.Lists.{listed-more}
use Rattle.downsample_view.proofs.sizes.origins.Goals as goal

pub loop-k-preserved : goal.loop-k-preserved
loop-k-preserved c =
    let k = c.loop-k.k in
    let f = get_or c.args.factors.now k 0 in
    let d = c.index-dims-k.result in
    let ranks = c.requires.ranks in
    let test = c.loop-k-test.true in
    let below : k < length c.args.factors.now = omega (arith, ranks, test) in
    let value = (let e : to_z w64 (of_z w64 c.origin_of.result) ≡ c.origin_of.result = omega (arith, ints) in e ∙ c.origin_of.ensures) in
    c.in_ok-push.ensures.items ∙ ap (λ (x : ℤ). c.loop-k.all.items ++ x ∷ []) value ∙ ap (λ (zs : List ℤ). zs ++ (λ (dim : Bounds). dim.lo) (new_dim c.args.method f d) ∷ []) c.loop-k.invariant
    ∙ sym (listed-more (λ (dim : Bounds). dim.lo) c.args.method c.args.factors.now c.args.dims.now k f d below test (get_or-inside c.args.factors.now k 0 f below) c.index-dims-k.is)
