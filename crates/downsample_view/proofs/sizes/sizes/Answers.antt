use Rattle.std.proofs.Common.{◌∙◌, ◌<◌, ◌++◌, ◌∷◌, [], ℕ, List, length, get_or, sym, ap, arith}
use Rattle.index_intervals.specs.Members.{size_of}
use Rattle.index_transform.proofs.Laws.{get_or-inside}
use Rattle.downsample_view.specs.Groups.{new_dim}
use Rattle.downsample_view.proofs.Cells.{size-new}
use Rattle.downsample_view.proofs.Lists.{listed-more}
use Rattle.downsample_view.proofs.sizes.sizes.Goals as goal

pub loop-k-preserved : goal.loop-k-preserved
loop-k-preserved c =
    let k = c.loop-k.k in
    let f = get_or c.args.factors.now k 0 in
    let d = c.index-dims-k.result in
    let ranks = c.requires.ranks in
    let test = c.loop-k-test.true in
    let below : k < length c.args.factors.now = omega (arith, ranks, test) in
    let value = (c.new_size.ensures ∙ sym (size-new c.args.method f d)) in
    c.in_ok-push.ensures.items ∙ ap (λ (x : ℕ). c.loop-k.all.items ++ x ∷ []) value ∙ ap (λ (zs : List ℕ). zs ++ size_of (new_dim c.args.method f d) ∷ []) c.loop-k.invariant
    ∙ sym (listed-more size_of c.args.method c.args.factors.now c.args.dims.now k f d below test (get_or-inside c.args.factors.now k 0 f below) c.index-dims-k.is)
