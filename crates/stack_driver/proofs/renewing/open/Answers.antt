use Rattle.std.proofs.Common.{rules, ◌≡◌, ◌∙◌, true, List, length, ap, sym, subst}
use Rattle.std.specs.List.{list_all}
use Rattle.transform_composition.specs.Bounds.{Bounds}
use Rattle.transform_composition.specs.Maps.{is_map}
use Rattle.stack_driver.specs.Renewed.{opened_dims}
use Rattle.stack_driver.proofs.Renewals.{length-opened_dims, maps_still}
use Rattle.stack_driver.proofs.renewing.open.Goals as goal

pub set_dims-requires-clause-rank : goal.set_dims-requires-clause-rank
set_dims-requires-clause-rank c =
    let t = c.args.transform.now in
    let same : c.in_ok-dims.dims.items ≡ opened_dims 0 t.domain.dims t.maps = search rules in
    ap (λ (ds : List Bounds). length ds) same ∙ length-opened_dims 0 t.domain.dims t.maps

pub set_dims-requires-clause-fit : goal.set_dims-requires-clause-fit
set_dims-requires-clause-fit c =
    let t = c.args.transform.now in
    let same : c.in_ok-dims.dims.items ≡ opened_dims 0 t.domain.dims t.maps = search rules in
    subst (λ (ds : List Bounds). list_all (is_map ds) t.maps ≡ true) (sym same) (maps_still t.domain.dims t.maps t.maps c.domain.ensures.well_formed.maps)
