use Rattle.std.proofs.Common.{◌≡◌, ◌∙◌, List, ap, sym, subst, length, true}
use Rattle.std.specs.List.{list_all}
use Rattle.index_transform.specs.Bounds.{Bounds}
use Rattle.index_transform.specs.declared.domain.Domain.{Domain}
use Rattle.transform_composition.specs.Tightening.{is_ordered}
use Rattle.transform_composition.proofs.JoinLemmas.{tightened-at}
use Rattle.transform_composition.proofs.IdentityLemmas.{composed-identity}
use Rattle.index_transform.specs.declared.map.OutMap.{OutMap}
use Rattle.index_transform.specs.Maps.{is_map}
use Rattle.transform_composition.proofs.AgreeLemmas.{values-tightened, GoesInto-tightened}
use Rattle.transform_composition.proofs.MeetingLemmas.{AreMet-tightened}
use Rattle.transform_composition.proofs.ReachLemmas.{KeepsReached-tightened}
use Rattle.transform_composition.proofs.tightening.tighten.Goals as goal

pub returns-clause-values : goal.returns-clause-values
returns-clause-values c =
    values-tightened c.args.t.now c.set_dims.new.self c.args.outer.now.dims c.in_ok-dims.dims.items c.domain.ensures.well_formed
    (ap (λ (ds : List Bounds). list_all is_ordered ds) (sym (c.items.ensures ∙ ap (λ (d : Domain). d.dims) c.domain.ensures.value)) ∙ c.in_ok-dims.ensures.ordered)
    (tightened-at _ _ _ _ _ _ _
    (c.items.ensures ∙ ap (λ (d : Domain). d.dims) c.domain.ensures.value)
    c.items-2.ensures
    c.maps.ensures.value c.in_ok-dims.ensures.ok)
    c.set_dims.ensures

pub returns-clause-inside : goal.returns-clause-inside
returns-clause-inside c =
    GoesInto-tightened c.args.t.now c.set_dims.new.self c.args.outer.now.dims c.in_ok-dims.dims.items c.domain.ensures.well_formed
    (ap (λ (ds : List Bounds). list_all is_ordered ds) (sym (c.items.ensures ∙ ap (λ (d : Domain). d.dims) c.domain.ensures.value)) ∙ c.in_ok-dims.ensures.ordered)
    (tightened-at _ _ _ _ _ _ _
    (c.items.ensures ∙ ap (λ (d : Domain). d.dims) c.domain.ensures.value)
    c.items-2.ensures
    c.maps.ensures.value c.in_ok-dims.ensures.ok)
    c.set_dims.ensures

pub returns-clause-identity : goal.returns-clause-identity
returns-clause-identity c =
    let dims = c.items.ensures ∙ ap (λ (d : Domain). d.dims) c.domain.ensures.value in
    let rank = sym (ap length c.maps.ensures.value) ∙ c.in_ok-dims.ensures.outer_rank ∙ ap length c.items-2.ensures in
    composed-identity c.args.outer.now c.args.t.now c.set_dims.new.self c.in_ok-dims.dims.items rank
    (subst (λ (ms : List OutMap). list_all (is_map c.in_ok-dims.dims.items) ms ≡ true) c.maps.ensures.value c.in_ok-dims.ensures.fit)
    (tightened-at _ _ _ _ _ _ _ dims c.items-2.ensures c.maps.ensures.value c.in_ok-dims.ensures.ok)
    c.set_dims.ensures

pub returns-clause-meets : goal.returns-clause-meets
returns-clause-meets c =
    AreMet-tightened c.args.t.now c.set_dims.new.self c.args.outer.now.dims c.in_ok-dims.dims.items c.domain.ensures.well_formed
    (tightened-at _ _ _ _ _ _ _
    (c.items.ensures ∙ ap (λ (d : Domain). d.dims) c.domain.ensures.value)
    c.items-2.ensures
    c.maps.ensures.value c.in_ok-dims.ensures.ok)
    c.set_dims.ensures

pub returns-clause-reached : goal.returns-clause-reached
returns-clause-reached c =
    KeepsReached-tightened c.args.t.now c.set_dims.new.self c.args.outer.now.dims c.in_ok-dims.dims.items c.domain.ensures.well_formed
    (tightened-at _ _ _ _ _ _ _
    (c.items.ensures ∙ ap (λ (d : Domain). d.dims) c.domain.ensures.value)
    c.items-2.ensures
    c.maps.ensures.value c.in_ok-dims.ensures.ok)
    c.set_dims.ensures
