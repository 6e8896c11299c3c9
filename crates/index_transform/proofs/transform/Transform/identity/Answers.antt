use Rattle.std.proofs.Common.{◌≡◌, ◌∙◌, true, sym, ap, subst, List}
use Rattle.std.specs.List.{list_all}
use Rattle.index_intervals.specs.Bounds.{Bounds, are_bounds}
use Rattle.index_transform.specs.declared.map.OutMap.{OutMap}
use Rattle.index_transform.specs.Transforms.{IsTransform}
use Rattle.index_transform.specs.Identity.{identity_maps}
use Rattle.index_transform.proofs.IdentityLaws.{IsTransform-identity}
use Rattle.index_transform.proofs.transform.Transform.identity.Goals as goal

pub of-requires : goal.of-requires
of-requires c =
    let bounds = subst (λ (ds : List Bounds). list_all are_bounds ds ≡ true) c.items-2.ensures c.look_at_all.ensures in
    let maps = c.in_ok-maps.ensures ∙ ap (identity_maps 0) c.items.ensures in
    subst (λ (ms : List OutMap). IsTransform (record { domain = c.args.domain; maps = ms })) (sym maps) (IsTransform-identity c.args.domain c.requires bounds)
