use Rattle.std.proofs.Common.{◌≡◌, ◌∙◌, ℕ, ◌<◌, List, [], length, map, refl, sym, ap, subst}
use Rattle.std.specs.List.{range_with_len}
use Rattle.index_intervals.specs.Bounds.{Bounds, AreBounds}
use Rattle.index_transform.specs.declared.domain.Domain.{Domain}
use Rattle.index_transform.specs.declared.map.OutMap.{OutMap}
use Rattle.index_transform.specs.Transforms.{DomainAndMaps, IsTransform, KeepsRules}
use Rattle.dim_changes.specs.Dims.{dim_at, label_at}
use Rattle.dim_changes.proofs.Laws.{AreBounds-each, gives-over, tighten_answer-same}
use Rattle.dim_expressions.specs.Left.{passed}
use Rattle.dim_expressions.specs.Transpose.{carried, transpose_view}
use Rattle.dim_expressions.proofs.CarriedLaws.{AreDims}
use Rattle.dim_expressions.proofs.TransposeLaws.{IsTransform-transpose, IsTightTransform-transpose, olds-below, news-below, transpose-made}
use Rattle.dim_expressions.proofs.transpose.transposed_from.Goals as goal

-- where each old dimension goes, over the old dimensions
positions-are : (selected targets : List ℕ) (olds dims : List Bounds) → olds ≡ dims
    → map (carried (length olds) selected targets) (range_with_len 0 (length olds)) ≡ map (carried (length dims) selected targets) (range_with_len 0 (length dims))
positions-are selected targets olds dims e = ap (λ (os : List Bounds). map (carried (length os) selected targets) (range_with_len 0 (length os))) e

pub left_domain-requires : goal.left_domain-requires
left_domain-requires c =
    olds-below c.args.u.now c.args.selected.now c.args.targets.now c.requires.well_formed (AreBounds-each c.args.u.now.domain.dims c.requires.well_formed.bounds)
    (record { once = c.requires.once; below = c.requires.known }) (record { once = c.requires.once_targets; below = c.requires.known_targets }) c.requires.same
    c.args.from.now (length c.args.u.now.domain.dims) refl c.requires.from

pub positions_passed-requires : goal.positions_passed-requires
positions_passed-requires c =
    let olds = c.items.ensures ∙ ap (λ (d : Domain). d.dims) c.domain.ensures.value in
    news-below c.args.u.now c.args.selected.now c.args.targets.now c.requires.well_formed (AreBounds-each c.args.u.now.domain.dims c.requires.well_formed.bounds)
    (record { once = c.requires.once; below = c.requires.known }) (record { once = c.requires.once_targets; below = c.requires.known_targets }) c.requires.same
    (map (carried (length c.items.result.now) c.args.selected.now c.args.targets.now) (range_with_len 0 (length c.items.result.now)))
    (positions-are c.args.selected.now c.args.targets.now c.items.result.now c.args.u.now.domain.dims olds)

-- what is built is the view
built : (u : DomainAndMaps) (selected targets from : List ℕ) (domain : Domain) (olds : List Bounds) (ms : List OutMap) (t : IsTransform u)
    (bounds : (i : ℕ) → i < length u.domain.dims → AreBounds (dim_at u.domain.dims i))
    (f : AreDims (length u.domain.dims) selected) (g : AreDims (length u.domain.dims) targets) → length targets ≡ length selected → olds ≡ u.domain.dims
    → from ≡ map (carried (length u.domain.dims) targets selected) (range_with_len 0 (length u.domain.dims))
    → domain ≡ (let x : Domain = record { dims = map (dim_at u.domain.dims) from; labels = map (label_at u.domain.labels) from } in x)
    → ms ≡ map passed (map (carried (length olds) selected targets) (range_with_len 0 (length olds)))
    → (let b : DomainAndMaps = record { domain = domain; maps = ms } in b) ≡ transpose_view u selected targets
built u selected targets from domain olds ms t bounds f g same o e d m =
    ap (λ (x : Domain). let b : DomainAndMaps = record { domain = x; maps = ms } in b) d
    ∙ transpose-made u selected targets t bounds f g same u.domain.dims [] (map (dim_at u.domain.dims) from) u.domain.labels [] (map (label_at u.domain.labels) from) from
    (map (carried (length olds) selected targets) (range_with_len 0 (length olds))) ms refl refl e (positions-are selected targets olds u.domain.dims o) refl refl refl refl m

pub stepped-requires : goal.stepped-requires
stepped-requires c =
    let u = c.args.u.now in
    let f : AreDims (length u.domain.dims) c.args.selected.now = record { once = c.requires.once; below = c.requires.known } in
    let g : AreDims (length u.domain.dims) c.args.targets.now = record { once = c.requires.once_targets; below = c.requires.known_targets } in
    let olds = c.items.ensures ∙ ap (λ (d : Domain). d.dims) c.domain.ensures.value in
    let made = built u c.args.selected.now c.args.targets.now c.args.from.now c.in_ok-domain.domain c.items.result.now c.in_ok-maps.maps.items c.requires.well_formed (AreBounds-each c.args.u.now.domain.dims c.requires.well_formed.bounds) f g
    c.requires.same olds c.requires.from c.in_ok-domain.ensures c.in_ok-maps.ensures in
    subst KeepsRules (sym made) (IsTransform-transpose u c.args.selected.now c.args.targets.now c.requires.well_formed (AreBounds-each c.args.u.now.domain.dims c.requires.well_formed.bounds) f g c.requires.same)

pub returns : goal.returns
returns c =
    let u = c.args.u.now in
    let f : AreDims (length u.domain.dims) c.args.selected.now = record { once = c.requires.once; below = c.requires.known } in
    let g : AreDims (length u.domain.dims) c.args.targets.now = record { once = c.requires.once_targets; below = c.requires.known_targets } in
    let olds = c.items.ensures ∙ ap (λ (d : Domain). d.dims) c.domain.ensures.value in
    let made = built u c.args.selected.now c.args.targets.now c.args.from.now c.in_ok-domain.domain c.items.result.now c.in_ok-maps.maps.items c.requires.well_formed (AreBounds-each c.args.u.now.domain.dims c.requires.well_formed.bounds) f g
    c.requires.same olds c.requires.from c.in_ok-domain.ensures c.in_ok-maps.ensures in
    let view = transpose_view u c.args.selected.now c.args.targets.now in
    let tight = tighten_answer-same view u.domain (IsTightTransform-transpose u c.args.selected.now c.args.targets.now c.requires.well_formed (AreBounds-each c.args.u.now.domain.dims c.requires.well_formed.bounds) f g c.requires.same) in
    gives-over u _ view c.stepped.result made tight c.stepped.ensures
