use Rattle.index_transform.proofs.WalkLemmas.{walk_begun, IsWalk-of}
use Rattle.index_transform.proofs.walk.Walk.over.Goals as goal

pub invariant_of-result : goal.invariant_of-result
invariant_of-result c =
    IsWalk-of c.in_ok-dims.dims.items c.args.dims.now c.in_ok-next.next.items c.has_empty-ended.result
    c.in_ok-dims.ensures.items c.in_ok-next.ensures c.has_empty-ended.ensures.not_empty

pub returns : goal.returns
returns c =
    walk_begun c.in_ok-dims.dims.items c.args.dims.now c.in_ok-next.next.items c.has_empty-ended.result
    c.in_ok-dims.ensures.items c.in_ok-next.ensures c.has_empty-ended.ensures.value c.has_empty-ended.ensures.not_empty
