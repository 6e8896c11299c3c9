use Rattle.std.proofs.Common.{◌≡◌, ◌++◌, sym, subst, List, drop, ◌+◌}
use Rattle.index_transform.specs.declared.map.OutMap.{OutMap}
use Rattle.index_transform.specs.Identity.{identity_maps}
use Rattle.index_transform.proofs.IdentityLaws.{identity_maps-next}
use Rattle.index_transform.proofs.copies.identity_maps.Goals as goal

pub loop-dim-preserved : goal.loop-dim-preserved
loop-dim-preserved c =
    subst (λ (ms : List OutMap). ms ++ identity_maps (c.loop-dim.dim + 1) (drop (c.loop-dim.dim + 1) c.args.dims.now) ≡ identity_maps 0 c.args.dims.now)
    (sym c.in_ok-push.ensures.items)
    (identity_maps-next c.args.dims.now c.loop-dim.dim c.loop-dim.maps.items (identity_maps 0 c.args.dims.now) c.loop-dim-test.true c.loop-dim.invariant)
