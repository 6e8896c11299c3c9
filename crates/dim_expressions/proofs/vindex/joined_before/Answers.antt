use Rattle.std.proofs.Common.{◌≡◌, ◌∙◌, ℤ, true, List, [], ◌∷◌, length, sym, ap, subst, arith, ℕ, map}
use Rattle.std.specs.List.{list_all, range_with_len}
use Rattle.index_intervals.specs.Bounds.{Bounds, AreBounds, are_bounds}
use Rattle.index_transform.specs.declared.domain.Domain.{Domain}
use Rattle.index_transform.specs.declared.map.OutMap.{OutMap}
use Rattle.index_transform.specs.Transforms.{DomainAndMaps, KeepsRules}
use Rattle.dim_changes.proofs.Laws.{AreBounds-each, gives-over, others_known}
use Rattle.dim_changes.specs.Dims.{dim_at, label_at, others}
use Rattle.dim_expressions.specs.Left.{left_map}
use Rattle.dim_expressions.specs.Arrays.{array_dim, array_at}
use Rattle.dim_expressions.specs.Vindex.{built_map, vindex_view}
use Rattle.dim_expressions.proofs.WithoutLaws.{maps, without-made, front-is}
use Rattle.dim_expressions.proofs.DiagonalLaws.{one_fewer}
use Rattle.dim_expressions.proofs.UnreadLaws.{with_maps, Gives-same-maps}
use Rattle.dim_expressions.proofs.VindexLaws.{is_joined, first-bounds, IsTransform-vindex, tight-vindex, lengths-vindex, count-vindex, same-vindex, numbers-vindex}
use Rattle.dim_expressions.proofs.vindex.joined_before.Goals as goal

pub front_domain-requires : goal.front_domain-requires
front_domain-requires c = others_known c.args.selected.now (length c.args.u.now.domain.dims) (length c.args.u.now.domain.dims) c.args.rest.now (omega arith) c.requires.rest

pub first_dim-requires : goal.first_dim-requires
first_dim-requires c = let j = is_joined c.args.arrays.now (length c.args.selected.now) c.requires.joined in let a = j.some in let b = j.same in omega (arith, a, b)

pub built_maps-requires-clause-few : goal.built_maps-requires-clause-few
built_maps-requires-clause-few c =
    let few = one_fewer c.args.u.now c.args.selected.now c.domain.ensures.well_formed c.requires.known ((is_joined c.args.arrays.now (length c.args.selected.now) c.requires.joined).some) in
    let l = ap length c.requires.rest in
    omega (arith, few, l)

-- the maps that are composed
abbrev maps_of : DomainAndMaps → List ℕ → List (List ℤ) → List OutMap
maps_of u selected arrays = maps u selected 1 (built_map (length (others selected (length u.domain.dims))) arrays)

-- what is built
built : (u : DomainAndMaps) (selected : List ℕ) (arrays : List (List ℤ)) (rest : List ℕ) (domain : Domain) (first : Bounds) (olds : List Bounds) (ms : List OutMap)
    → rest ≡ others selected (length u.domain.dims) → olds ≡ u.domain.dims
    → domain ≡ (let x : Domain = record { dims = first ∷ map (dim_at u.domain.dims) rest; labels = [] ∷ map (label_at u.domain.labels) rest } in x) → first ≡ array_dim (array_at arrays 0)
    → ms ≡ map (left_map selected rest 1 (built_map (length rest) arrays)) (range_with_len 0 (length olds))
    → (let b : DomainAndMaps = record { domain = domain; maps = ms } in b) ≡ with_maps (vindex_view u selected arrays) (maps_of u selected arrays)
built u selected arrays rest domain first olds ms r o d f m =
    let front = front-is u rest first (array_dim (array_at arrays 0)) domain d f in
    let same = m ∙ ap (λ (q : List ℕ). map (left_map selected rest 1 (built_map (length q) arrays)) (range_with_len 0 (length olds))) r in
    without-made u selected rest (array_dim (array_at arrays 0) ∷ []) (built_map (length (others selected (length u.domain.dims))) arrays) domain olds ms r o front same

-- the first dimension has bounds
first-of : (u : DomainAndMaps) (arrays : List (List ℤ)) (rest : List ℕ) (domain : Domain) (first : Bounds)
    → domain ≡ (let x : Domain = record { dims = first ∷ map (dim_at u.domain.dims) rest; labels = [] ∷ map (label_at u.domain.labels) rest } in x) → first ≡ array_dim (array_at arrays 0)
    → list_all are_bounds domain.dims ≡ true → AreBounds (array_dim (array_at arrays 0))
first-of u arrays rest domain first d f e =
    first-bounds (array_dim (array_at arrays 0)) domain.dims (map (dim_at u.domain.dims) rest) e
    (ap (λ (x : Domain). x.dims) d ∙ ap (λ (b : Bounds). b ∷ map (dim_at u.domain.dims) rest) f)

pub stepped-requires : goal.stepped-requires
stepped-requires c =
    let u = c.args.u.now in
    let selected = c.args.selected.now in
    let arrays = c.args.arrays.now in
    let olds = c.items.ensures ∙ ap (λ (d : Domain). d.dims) c.domain.ensures.value in
    let made = built u selected arrays c.args.rest.now c.in_ok-domain.domain c.first_dim.result c.items.result.now c.in_ok-maps.maps.items c.requires.rest olds c.in_ok-domain.ensures c.first_dim.ensures c.in_ok-maps.ensures in
    let first = first-of u arrays c.args.rest.now c.in_ok-domain.domain c.first_dim.result c.in_ok-domain.ensures c.first_dim.ensures c.look_at_dims.ensures in
    subst KeepsRules (sym made)
    (IsTransform-vindex u selected arrays c.domain.ensures.well_formed (AreBounds-each u.domain.dims c.domain.ensures.well_formed.bounds) c.requires.known c.requires.joined c.requires.good first)

pub returns : goal.returns
returns c =
    let u = c.args.u.now in
    let selected = c.args.selected.now in
    let arrays = c.args.arrays.now in
    let olds = c.items.ensures ∙ ap (λ (d : Domain). d.dims) c.domain.ensures.value in
    let made = built u selected arrays c.args.rest.now c.in_ok-domain.domain c.first_dim.result c.items.result.now c.in_ok-maps.maps.items c.requires.rest olds c.in_ok-domain.ensures c.first_dim.ensures c.in_ok-maps.ensures in
    let first = first-of u arrays c.args.rest.now c.in_ok-domain.domain c.first_dim.result c.in_ok-domain.ensures c.first_dim.ensures c.look_at_dims.ensures in
    let view : DomainAndMaps = vindex_view u selected arrays in
    let keeps = c.domain.ensures.well_formed in
    let each = AreBounds-each u.domain.dims c.domain.ensures.well_formed.bounds in
    let tight = tight-vindex u selected arrays keeps each c.requires.known c.requires.joined c.requires.good first in
    Gives-same-maps u view (maps_of u selected arrays) c.stepped.result (lengths-vindex u selected arrays keeps each c.requires.known c.requires.joined c.requires.good first)
    (count-vindex u selected arrays keeps each c.requires.known c.requires.joined c.requires.good first)
    (same-vindex u selected arrays keeps each c.requires.known c.requires.joined c.requires.good first)
    (numbers-vindex u selected arrays keeps each c.requires.known c.requires.joined c.requires.good first)
    (gives-over u _ (with_maps view (maps_of u selected arrays)) c.stepped.result made tight c.stepped.ensures)
