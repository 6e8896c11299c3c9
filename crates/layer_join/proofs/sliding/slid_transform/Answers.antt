use Rattle.std.proofs.Common.{◌≡◌, ◌∙◌, sym, ap, subst, arith, to_z, of_z, w64, List, map}
use Rattle.std.proofs.lemmas.Int.{ints}
use Rattle.cells.proofs.Laws.{list_all-at}
use Rattle.index_intervals.specs.Bounds.{are_bounds}
use Rattle.index_transform.specs.Transforms.{IsTransform}
use Rattle.index_transform.specs.declared.domain.Domain.{Domain}
use Rattle.index_transform.specs.declared.map.OutMap.{OutMap}
use Rattle.stack_driver.specs.Reading.{point}
use Rattle.layer_join.specs.Slid.{slid_dims, slid_map, slid_transform}
use Rattle.layer_join.proofs.Slides.{IsTransform-slid}
use Rattle.layer_join.proofs.sliding.slid_transform.Goals as goal

pub of-requires : goal.of-requires
of-requires c =
    let t = c.args.t.now in
    let w = c.domain.ensures.well_formed in
    let n : to_z w64 (of_z w64 c.args.by) ≡ c.args.by = omega (arith, ints) in
    let d : c.in_ok-domain.domain ≡ (slid_transform c.args.axis c.args.by t).domain =
    c.in_ok-domain.ensures
    ∙ ap (λ (k : Domain). record { dims = slid_dims c.args.axis (to_z w64 (of_z w64 c.args.by)) k.dims; labels = k.labels }) c.domain.ensures.value
    ∙ ap (λ z. record { dims = slid_dims c.args.axis z t.domain.dims; labels = t.domain.labels }) n in
    let m : c.in_ok-slid_maps.field-0.items ≡ (slid_transform c.args.axis c.args.by t).maps =
    c.in_ok-slid_maps.ensures ∙ ap (map (slid_map c.args.axis (to_z w64 (of_z w64 c.args.by)))) c.maps.ensures.value ∙ ap (λ z. map (slid_map c.args.axis z) t.maps) n in
    let made : slid_transform c.args.axis c.args.by t ≡ record { domain = c.in_ok-domain.domain; maps = c.in_ok-slid_maps.field-0.items } =
    ap (λ (k : Domain). record { domain = k; maps = (slid_transform c.args.axis c.args.by t).maps }) (sym d) ∙ ap (λ (ms : List OutMap). record { domain = c.in_ok-domain.domain; maps = ms }) (sym m) in
    subst IsTransform made
    (IsTransform-slid c.args.axis c.args.by t (record { lo = c.requires.lo; hi = c.requires.hi }) (list_all-at are_bounds t.domain.dims point w.bounds c.args.axis c.requires.axis) w)
