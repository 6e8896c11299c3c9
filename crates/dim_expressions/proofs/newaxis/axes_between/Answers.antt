use Rattle.std.proofs.Common.{◌≡◌, ◌∙◌, ℕ, ◌+◌, ◌<◌, ◌≤◌, List, length, map, refl, sym, ap, subst}
use Rattle.std.specs.List.{range_with_len}
use Rattle.index_intervals.specs.Bounds.{AreBounds}
use Rattle.index_transform.specs.declared.domain.Domain.{Domain}
use Rattle.index_transform.specs.declared.map.OutMap.{OutMap}
use Rattle.index_transform.specs.Transforms.{DomainAndMaps, IsTransform, KeepsRules}
use Rattle.dim_changes.specs.Dims.{spot_in, others, dim_at}
use Rattle.dim_changes.proofs.Laws.{AreBounds-each, gives-over, tighten_answer-same}
use Rattle.dim_expressions.specs.Left.{passed}
use Rattle.dim_expressions.specs.Newaxis.{axis_by, axis_label_by, newaxis_view}
use Rattle.dim_expressions.proofs.CarriedLaws.{AreDims}
use Rattle.dim_expressions.proofs.NewaxisLaws.{IsTransform-newaxis, IsTightTransform-newaxis, spots-few, spots-below, newaxis-made}
use Rattle.dim_expressions.proofs.newaxis.axes_between.Goals as goal

pub axis_domain-requires : goal.axis_domain-requires
axis_domain-requires c =
    spots-few c.args.u.now c.args.added.now c.requires.well_formed (AreBounds-each c.args.u.now.domain.dims c.requires.well_formed.bounds) (record { once = c.requires.once; below = c.requires.known }) c.requires.few
    c.args.spots.now (length c.args.u.now.domain.dims) (c.requires.spots ∙ ap (others c.args.added.now) c.requires.count) refl

pub passed_each-requires : goal.passed_each-requires
passed_each-requires c =
    spots-below c.args.u.now c.args.added.now c.requires.well_formed (AreBounds-each c.args.u.now.domain.dims c.requires.well_formed.bounds) (record { once = c.requires.once; below = c.requires.known }) c.requires.few
    c.args.spots.now (c.requires.spots ∙ ap (others c.args.added.now) c.requires.count)

-- what is built is the view
built : (u : DomainAndMaps) (added spots : List ℕ) (count : ℕ) (domain : Domain) (ms : List OutMap) (t : IsTransform u)
    (bounds : (i : ℕ) → i < length u.domain.dims → AreBounds (dim_at u.domain.dims i)) (f : AreDims (length u.domain.dims + length added) added)
    → (few : length u.domain.dims + length added ≤ 32) → count ≡ length u.domain.dims + length added → spots ≡ others added count
    → domain ≡ (let x : Domain = record { dims = map (λ position. axis_by u.domain.dims (spot_in spots position)) (range_with_len 0 count); labels = map (λ position. axis_label_by u.domain.labels (spot_in spots position)) (range_with_len 0 count) } in x)
    → ms ≡ map passed spots
    → (let b : DomainAndMaps = record { domain = domain; maps = ms } in b) ≡ newaxis_view u added
built u added spots count domain ms t bounds f few n p d m =
    ap (λ (x : Domain). let b : DomainAndMaps = record { domain = x; maps = ms } in b) d
    ∙ newaxis-made u added t bounds f few u.domain.dims (map (λ position. axis_by u.domain.dims (spot_in spots position)) (range_with_len 0 count))
    u.domain.labels (map (λ position. axis_label_by u.domain.labels (spot_in spots position)) (range_with_len 0 count)) spots count ms
    refl refl (p ∙ ap (others added) n) n refl refl m

pub stepped-requires : goal.stepped-requires
stepped-requires c =
    let u = c.args.u.now in
    let f : AreDims (length u.domain.dims + length c.args.added.now) c.args.added.now = record { once = c.requires.once; below = c.requires.known } in
    let made = built u c.args.added.now c.args.spots.now c.args.count c.in_ok-domain.domain c.in_ok-maps.maps.items c.requires.well_formed (AreBounds-each c.args.u.now.domain.dims c.requires.well_formed.bounds) f c.requires.few
    c.requires.count c.requires.spots c.in_ok-domain.ensures c.in_ok-maps.ensures in
    subst KeepsRules (sym made) (IsTransform-newaxis u c.args.added.now c.requires.well_formed (AreBounds-each c.args.u.now.domain.dims c.requires.well_formed.bounds) f c.requires.few)

pub returns : goal.returns
returns c =
    let u = c.args.u.now in
    let f : AreDims (length u.domain.dims + length c.args.added.now) c.args.added.now = record { once = c.requires.once; below = c.requires.known } in
    let made = built u c.args.added.now c.args.spots.now c.args.count c.in_ok-domain.domain c.in_ok-maps.maps.items c.requires.well_formed (AreBounds-each c.args.u.now.domain.dims c.requires.well_formed.bounds) f c.requires.few
    c.requires.count c.requires.spots c.in_ok-domain.ensures c.in_ok-maps.ensures in
    let view = newaxis_view u c.args.added.now in
    let tight = tighten_answer-same view u.domain (IsTightTransform-newaxis u c.args.added.now c.requires.well_formed (AreBounds-each c.args.u.now.domain.dims c.requires.well_formed.bounds) f c.requires.few) in
    gives-over u _ view c.stepped.result made tight c.stepped.ensures
