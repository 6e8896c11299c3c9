use Rattle.std.proofs.Common.{◌≡◌, ◌∙◌, ap, sym, subst, length, List, true}
use Rattle.std.specs.List.{list_all}
use Rattle.index_transform.specs.Bounds.{Bounds}
use Rattle.index_transform.specs.Maps.{is_map}
use Rattle.transform_composition.proofs.FitLemmas.{maps-tight, length-tight_dims}
use Rattle.transform_composition.proofs.tightening.tightened.Goals as goal

pub first_outside-requires-clause-fit : goal.first_outside-requires-clause-fit
first_outside-requires-clause-fit c =
    subst (λ (ds : List Bounds). list_all (is_map ds) c.args.maps.now ≡ true) (sym (c.deref.ensures.value ∙ c.in_ok-dims.ensures.dims))
    (maps-tight c.args.inners.now c.args.outers.now c.args.maps.now c.args.maps.now c.in_ok-dims.ensures.ordered c.requires.fit)

pub returns-in-None-clause-fit : goal.returns-in-None-clause-fit
returns-in-None-clause-fit c =
    subst (λ (ds : List Bounds). list_all (is_map ds) c.args.maps.now ≡ true) (sym c.in_ok-dims.ensures.dims)
    (maps-tight c.args.inners.now c.args.outers.now c.args.maps.now c.args.maps.now c.in_ok-dims.ensures.ordered c.requires.fit)

pub returns-in-None-clause-rank : goal.returns-in-None-clause-rank
returns-in-None-clause-rank c =
    ap length c.in_ok-dims.ensures.dims ∙ length-tight_dims 0 c.args.inners.now c.args.outers.now c.args.maps.now
