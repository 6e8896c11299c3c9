use Rattle.std.proofs.Common.{◌≡◌, ◌∙◌, ◌<◌, List, ap, sym, subst, arith, length, set}
use Rattle.index_transform.specs.Bounds.{Bounds}
use Rattle.transform_composition.specs.Composing.{closed_along}
use Rattle.transform_composition.proofs.JoinLemmas.{closed_dims-more, closed_dims-whole}
use Rattle.index_transform.proofs.Laws.{written_back}
use Rattle.transform_composition.proofs.composing.closed_dims.Goals as goal

-- the dimension at the index is made explicit where it has to be
pub loop-k-preserved : goal.loop-k-preserved
loop-k-preserved c =
    let below : c.loop-k.k < length c.args.dims.items =
    subst (λ (xs : List Bounds). c.loop-k.k < length xs) c.deref_mut-dim-items.ensures.value c.loop-k-test.true in
    ap (λ (b : Bounds). set c.loop-k.dim-items c.loop-k.k b) (c.closed_along.ensures ∙ ap (λ (b : Bounds). closed_along c.loop-k.k c.args.maps.now b) (sym c.dim-item.is))
    ∙ closed_dims-more c.args.dims.items c.args.maps.now c.loop-k.k c.loop-k.dim-items c.dim-item.result below c.loop-k.invariant c.dim-item.is

pub returns : goal.returns
returns c =
    let n = ap (λ (xs : List Bounds). length xs) c.deref_mut-dim-items.ensures.value in
    let k : c.loop-k.k ≡ length c.args.dims.items = omega (arith, n, c.loop-k-test.false, c.loop-k.auto.k-end) in
    written_back c.args.dims.len c.args.dims.items c.loop-k.dim-items (sym c.deref_mut-dim-items.ensures.len ∙ n) (c.loop-k.auto.dim-items ∙ n)
    ∙ c.loop-k.invariant ∙ closed_dims-whole c.args.dims.items c.args.maps.now c.loop-k.k k
