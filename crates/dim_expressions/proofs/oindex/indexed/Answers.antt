use Rattle.std.proofs.Common.{◌≡◌, ◌∙◌, ℕ, ◌<◌, ℤ, true, List, length, map, get_or, sym, ap, subst, arith}
use Rattle.std.specs.List.{list_all, range_with_len}
use Rattle.index_intervals.specs.Bounds.{Bounds, AreBounds, are_bounds}
use Rattle.index_transform.specs.declared.domain.Domain.{Domain}
use Rattle.index_transform.specs.declared.map.OutMap.{OutMap}
use Rattle.index_transform.specs.Transforms.{DomainAndMaps, KeepsRules}
use Rattle.transform_composition.specs.Reading.{point}
use Rattle.dim_changes.proofs.Laws.{AreBounds-each, gives-over, made-of, range-length, tighten_answer-same}
use Rattle.dim_expressions.specs.Oindex.{built_map, indexed_dim, oindex_view}
use Rattle.dim_expressions.proofs.ArrayCauses.{arrays-fit}
use Rattle.dim_expressions.proofs.OindexLaws.{IsTransform-oindex, IsTightTransform-oindex, lengths-oindex, count-oindex, same-oindex, numbers-oindex, ranks-few}
use Rattle.dim_expressions.proofs.UnreadLaws.{with_maps, Gives-same-maps}
use Rattle.dim_expressions.proofs.oindex.indexed.Goals as goal

pub built_maps-requires-clause-few : goal.built_maps-requires-clause-few
built_maps-requires-clause-few c =
    let few = ranks-few c.args.u.now c.domain.ensures.well_formed in
    let same = ap length (c.items.ensures ∙ ap (λ (d : Domain). d.dims) c.domain.ensures.value) in
    omega (arith, few, same)

-- the maps that are composed
abbrev maps_of : DomainAndMaps → List ℕ → List (List ℤ) → List OutMap
maps_of u selected arrays = map (built_map (length u.domain.dims) selected arrays) (range_with_len 0 (length u.domain.dims))

-- what is built
built : (u : DomainAndMaps) (selected : List ℕ) (arrays : List (List ℤ)) (domain : Domain) (olds : List Bounds) (ms : List OutMap) → olds ≡ u.domain.dims
    → domain ≡ (oindex_view u selected arrays).domain → ms ≡ map (built_map (length olds) selected arrays) (range_with_len 0 (length olds))
    → (let b : DomainAndMaps = record { domain = domain; maps = ms } in b) ≡ with_maps (oindex_view u selected arrays) (maps_of u selected arrays)
built u selected arrays domain olds ms o d m =
    made-of (with_maps (oindex_view u selected arrays) (maps_of u selected arrays)) domain ms d
    (m ∙ ap (λ (os : List Bounds). map (built_map (length os) selected arrays) (range_with_len 0 (length os))) o)

-- the new dimensions have bounds
bounds-of : (u : DomainAndMaps) (selected : List ℕ) (arrays : List (List ℤ)) (domain : Domain) → domain ≡ (oindex_view u selected arrays).domain → list_all are_bounds domain.dims ≡ true
    → (i : ℕ) → i < length u.domain.dims → AreBounds (get_or ((oindex_view u selected arrays).domain.dims) i point)
bounds-of u selected arrays domain d e i h =
    let dims = ap (λ (x : Domain). x.dims) d in
    let l = range-length (indexed_dim u.domain.dims selected arrays) 0 (length u.domain.dims) in
    AreBounds-each ((oindex_view u selected arrays).domain.dims) (subst (λ (ds : List Bounds). list_all are_bounds ds ≡ true) dims e) i (omega (arith, h, l))

pub stepped-requires : goal.stepped-requires
stepped-requires c =
    let u = c.args.u.now in
    let olds = c.items.ensures ∙ ap (λ (d : Domain). d.dims) c.domain.ensures.value in
    let made = built u c.args.selected.now c.args.arrays.now c.in_ok-domain.domain c.items.result.now c.in_ok-maps.maps.items olds c.in_ok-domain.ensures c.in_ok-maps.ensures in
    subst KeepsRules (sym made)
    (IsTransform-oindex u c.args.selected.now c.args.arrays.now c.domain.ensures.well_formed (AreBounds-each u.domain.dims c.domain.ensures.well_formed.bounds)
    (bounds-of u c.args.selected.now c.args.arrays.now c.in_ok-domain.domain c.in_ok-domain.ensures c.look_at_dims.ensures) (arrays-fit u c.args.arrays.now c.args.selected.now c.requires.good))

pub returns : goal.returns
returns c =
    let u = c.args.u.now in
    let selected = c.args.selected.now in
    let arrays = c.args.arrays.now in
    let olds = c.items.ensures ∙ ap (λ (d : Domain). d.dims) c.domain.ensures.value in
    let made = built u selected arrays c.in_ok-domain.domain c.items.result.now c.in_ok-maps.maps.items olds c.in_ok-domain.ensures c.in_ok-maps.ensures in
    let view : DomainAndMaps = oindex_view u selected arrays in
    let whole : DomainAndMaps = with_maps view (maps_of u selected arrays) in
    let keeps = c.domain.ensures.well_formed in
    let each = AreBounds-each u.domain.dims c.domain.ensures.well_formed.bounds in
    let news = bounds-of u selected arrays c.in_ok-domain.domain c.in_ok-domain.ensures c.look_at_dims.ensures in
    let fit = arrays-fit u arrays selected c.requires.good in
    let tight = tighten_answer-same whole u.domain (IsTightTransform-oindex u selected arrays keeps each news fit) in
    Gives-same-maps u view (maps_of u selected arrays) c.stepped.result (lengths-oindex u selected arrays keeps each news fit) (count-oindex u selected arrays keeps each news fit) (same-oindex u selected arrays keeps each news fit)
    (numbers-oindex u selected arrays keeps each news fit) (gives-over u _ whole c.stepped.result made tight c.stepped.ensures)
