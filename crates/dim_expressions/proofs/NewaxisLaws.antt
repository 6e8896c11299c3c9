-- Dimensions of one cell, put between the old ones.
use Rattle.index_intervals.proofs.Laws.{preimage-ordered}
use Rattle.std.proofs.Common.{◌≡◌, ◌≢◌, ◌∙◌, ℕ, ◌+◌, ◌<◌, ◌≤◌, true, false, List, [], length, map, get_or, unwrap_or, refl, sym, ap, arith, pos, Option, Some, None, IsTrue}
use Rattle.std.proofs.lemmas.Int.{ints}
use Rattle.std.proofs.lemmas.Bool.Decides.{nat_tests}
use Rattle.std.specs.List.{range_with_len}
use Rattle.index_intervals.specs.Bounds.{Bounds, AreBounds}
use Rattle.index_transform.specs.declared.map.OutMap.{OutMap}
use Rattle.index_intervals.specs.Edges.{preimage_lower, preimage_upper}
use Rattle.index_transform.specs.Maps.{is_map, is_plain, are_labels, has_ranks}
use Rattle.transform_composition.specs.Inside.{is_inside_by}
use Rattle.transform_composition.specs.Reading.{point}
use Rattle.transform_composition.specs.Composing.{nowhere}
use Rattle.index_transform.specs.Transforms.{DomainAndMaps, IsTransform, KeepsRules}
use Rattle.index_transform.proofs.Laws.{get_or-inside}
use Rattle.dim_changes.specs.Dims.{spot_in, others}
use Rattle.dim_expressions.specs.Left.{passed}
use Rattle.dim_expressions.specs.Newaxis.{new_axis, axis_by, axis_label_by, newaxis_view}
use Rattle.dim_expressions.proofs.CarriedLaws.{AreDims}
use Rattle.dim_expressions.proofs.CountLaws.{others-count}
use Rattle.dim_changes.proofs.Laws.{spot_in-Some, rest_at, rest_distinct, spot_distinct, AreLabels-from, are_labels-true, AreLabels-taken, range-length, range-at, range-all, read-each, IsTight, IsTight-none, IsTight-one, preimage_lower-same, preimage_upper-same, is_strided_from, preimages-none, preimages-one, IsTightTransform}
use Rattle.dim_expressions.proofs.OindexLaws.{labels-length, ranks-few}
use Rattle.dim_expressions.proofs.PassedLaws.{ends_inside-same}

module _ (u : DomainAndMaps) (added : List ℕ) (t : IsTransform u)
    (bounds : (i : ℕ) → i < length u.domain.dims → AreBounds (get_or u.domain.dims i point))
    (f : AreDims (length u.domain.dims + length added) added) (few : length u.domain.dims + length added ≤ 32) where
  abbrev pub rank : ℕ
  rank = length u.domain.dims

  abbrev pub all : ℕ
  all = length u.domain.dims + length added

  abbrev pub olds : List ℕ
  olds = others added all

  abbrev pub news : List Bounds
  news = map (λ position. axis_by u.domain.dims (spot_in olds position)) (range_with_len 0 all)

  abbrev pub labels : List (List ℕ)
  labels = map (λ position. axis_label_by u.domain.labels (spot_in olds position)) (range_with_len 0 all)

  abbrev pub maps : List OutMap
  maps = map (λ dim. passed (get_or olds dim 0)) (range_with_len 0 rank)

  -- there is a position for each old dimension
  pub olds-length : length olds ≡ rank
  olds-length = let c = others-count added all f.once f.below in omega (arith, c)

  olds-below : (dim : ℕ) → dim < rank → get_or olds dim 0 < all
  olds-below dim h =
      let l = olds-length in
      let r = (rest_at added 0 all dim 0 (omega (arith, h, l))).below in
      omega (arith, r)

  olds-spot : (dim : ℕ) → dim < rank → spot_in olds (get_or olds dim 0) ≡ Some dim
  olds-spot dim h = let l = olds-length in spot_distinct olds dim 0 (rest_distinct added 0 all) (omega (arith, h, l))

  dim-at : (i : ℕ) (d : Bounds) → i < all → get_or news i d ≡ axis_by u.domain.dims (spot_in olds i)
  dim-at i d h = range-at (λ position. axis_by u.domain.dims (spot_in olds position)) 0 all i d h ∙ (let z : 0 + i ≡ i = omega arith in ap (λ k. axis_by u.domain.dims (spot_in olds k)) z)

  label-at : (i : ℕ) → i < all → get_or labels i [] ≡ axis_label_by u.domain.labels (spot_in olds i)
  label-at i h = range-at (λ position. axis_label_by u.domain.labels (spot_in olds position)) 0 all i [] h ∙ (let z : 0 + i ≡ i = omega arith in ap (λ k. axis_label_by u.domain.labels (spot_in olds k)) z)

  map-at : (i : ℕ) (m : OutMap) → i < rank → get_or maps i m ≡ passed (get_or olds i 0)
  map-at i m h = range-at (λ dim. passed (get_or olds dim 0)) 0 rank i m h ∙ (let z : 0 + i ≡ i = omega arith in ap (λ k. passed (get_or olds k 0)) z)

  dims-length : length news ≡ all
  dims-length = range-length (λ position. axis_by u.domain.dims (spot_in olds position)) 0 all

  labels-many : length labels ≡ all
  labels-many = range-length (λ position. axis_label_by u.domain.labels (spot_in olds position)) 0 all

  maps-length : length maps ≡ rank
  maps-length = range-length (λ dim. passed (get_or olds dim 0)) 0 rank

  fit : (dim : ℕ) → dim < rank → is_map news (passed (get_or olds dim 0)) ≡ true
  fit dim h = let b = olds-below dim h in let l = dims-length in grind (arith, nat_tests, b, l)

  -- the old dimension at a position
  record IsOld (position k : ℕ) : Type 0 where
    inside : k < rank
    there : get_or olds k 0 ≡ position

  old-at : (position k : ℕ) → spot_in olds position ≡ Some k → IsOld position k
  old-at position k e =
      let p = spot_in-Some olds position k e in
      let i = p.inside in
      let l = olds-length in
      record { inside = omega (arith, i, l); there = p.there 0 }

  good_labels : are_labels labels ≡ true
  good_labels = are_labels-true labels (AreLabels-taken u.domain.labels labels (λ i. unwrap_or (spot_in olds i) 0) (AreLabels-from u.domain.labels t.labels) taken once)
    where
      told : (i : ℕ) (o : Option ℕ) → spot_in olds i ≡ o → get_or labels i [] ≡ axis_label_by u.domain.labels o → get_or labels i [] ≢ []
          → (unwrap_or o 0 < length u.domain.labels) × (get_or labels i [] ≡ get_or u.domain.labels (unwrap_or o 0) [])
      told i None e at n = absurd (n at)
      told i (Some k) e at n = let l = (old-at i k e).inside in let m = labels-length u t in (omega (arith, l, m), at)

      taken : (i : ℕ) → i < length labels → get_or labels i [] ≢ []
          → (unwrap_or (spot_in olds i) 0 < length u.domain.labels) × (get_or labels i [] ≡ get_or u.domain.labels (unwrap_or (spot_in olds i) 0) [])
      taken i h n = let l = labels-many in told i (spot_in olds i) refl (label-at i (omega (arith, h, l))) n

      known : (i : ℕ) (o : Option ℕ) → spot_in olds i ≡ o → get_or labels i [] ≡ axis_label_by u.domain.labels o → get_or labels i [] ≢ [] → get_or olds (unwrap_or o 0) 0 ≡ i
      known i None e at n = absurd (n at)
      known i (Some k) e at n = (old-at i k e).there

      once : (i j : ℕ) → i < length labels → j < length labels → unwrap_or (spot_in olds i) 0 ≡ unwrap_or (spot_in olds j) 0 → get_or labels i [] ≢ [] → get_or labels j [] ≢ [] → i ≡ j
      once i j h k e m n =
          let l = labels-many in
          sym (known i (spot_in olds i) refl (label-at i (omega (arith, h, l))) m) ∙ ap (λ x. get_or olds x 0) e
          ∙ known j (spot_in olds j) refl (label-at j (omega (arith, k, l))) n

  ranks : IsTrue (has_ranks (record { dims = news; labels = labels }) maps)
  ranks =
      let a = dims-length in
      let b = labels-many in
      let c = maps-length in
      let old = ranks-few u t in
      grind (arith, nat_tests, a, b, c, few, old)

  -- what is built is a transform
  pub IsTransform-newaxis : KeepsRules (newaxis_view u added)
  IsTransform-newaxis = record {
    ranks = ranks;
    labels = good_labels;
    maps = range-all (is_map news) (λ dim. passed (get_or olds dim 0)) 0 rank (λ i h. let z : 0 + i ≡ i = omega arith in rw z (fit i h));
    plain = range-all is_plain (λ dim. passed (get_or olds dim 0)) 0 rank (λ i h. refl);
  }

  AreBounds-axis : AreBounds new_axis
  AreBounds-axis = record {
    lo_from = omega (arith, ints);
    lo_below = omega (arith, ints);
    hi_above = omega (arith, ints);
    hi_to = omega (arith, ints);
    ordered = omega (arith, ints);
  }

  tight : (position : ℕ) → position < all → IsTight position (get_or news position point) u.domain.dims maps
  tight position h = told (spot_in olds position) refl
    where
      apart : (j : ℕ) → j < length maps → get_or olds j 0 ≢ position → is_strided_from position (get_or maps j nowhere) ≡ false
      apart j b n =
          let lm = maps-length in
          let e = map-at j nowhere (omega (arith, b, lm)) in
          rw e (grind (arith, nat_tests, n))

      told : (o : Option ℕ) → spot_in olds position ≡ o → IsTight position (get_or news position point) u.domain.dims maps
      told None e =
          let at : get_or news position point ≡ new_axis = dim-at position point h ∙ ap (axis_by u.domain.dims) e in
          let none : (j : ℕ) → j < length maps → is_strided_from position (get_or maps j nowhere) ≡ false =
          λ j b. apart j b (λ q. let lm = maps-length in let z = olds-spot j (omega (arith, b, lm)) in let w : spot_in olds position ≡ Some j = ap (spot_in olds) (sym q) ∙ z in cc) in
          rw at
          (IsTight-none position new_axis u.domain.dims maps AreBounds-axis
          (preimages-none preimage_lower position u.domain.dims maps none) (preimages-none preimage_upper position u.domain.dims maps none))
      told (Some k) e =
          let lm = maps-length in
          let is = old-at position k e in
          let i = is.inside in
          let at : get_or news position point ≡ get_or u.domain.dims k point = dim-at position point h ∙ ap (axis_by u.domain.dims) e in
          let m : get_or maps k nowhere ≡ passed position = map-at k nowhere is.inside ∙ ap passed is.there in
          let others : (j : ℕ) → j < length maps → j ≢ k → is_strided_from position (get_or maps j nowhere) ≡ false =
          λ j b n. apart j b (λ q. let z = olds-spot j (omega (arith, b, lm)) in let w : Some j ≡ Some k = sym z ∙ ap (spot_in olds) q ∙ e in n (cc)) in
          let low = preimages-one preimage_lower position u.domain.dims maps k (pos 0) (pos 1) (omega (arith, i, lm)) lm m others in
          let high = preimages-one preimage_upper position u.domain.dims maps k (pos 0) (pos 1) (omega (arith, i, lm)) lm m others in
          rw at
          (IsTight-one position (get_or u.domain.dims k point) u.domain.dims maps _ _ (bounds k is.inside) low high
          (preimage-ordered (get_or u.domain.dims k point) (pos 0) (pos 1) (λ q. absurd (let no_such : ⊥ = cc in no_such)) (bounds k is.inside))
          (λ _. preimage_lower-same (get_or u.domain.dims k point)) (λ _. preimage_upper-same (get_or u.domain.dims k point)))

  inside : (dim : ℕ) → dim < rank → is_inside_by news (get_or u.domain.dims dim point) (passed (get_or olds dim 0)) ≡ true
  inside dim h =
      let at : get_or news (get_or olds dim 0) (get_or u.domain.dims dim point) ≡ get_or u.domain.dims dim point =
      dim-at (get_or olds dim 0) (get_or u.domain.dims dim point) (olds-below dim h) ∙ ap (axis_by u.domain.dims) (olds-spot dim h) in
      rw at (ends_inside-same (get_or u.domain.dims dim point) (bounds dim h))

  -- and tightening leaves it as it is
  pub IsTightTransform-newaxis : IsTightTransform news u.domain.dims maps
  IsTightTransform-newaxis = record {
    outputs = maps-length;
    fit = range-all (is_map news) (λ dim. passed (get_or olds dim 0)) 0 rank (λ i h. let z : 0 + i ≡ i = omega arith in rw z (fit i h));
    tight = λ i h. tight i (let l = dims-length in omega (arith, h, l));
    inside = λ j h. (let l = maps-length in let k : j < rank = omega (arith, h, l) in rw (map-at j nowhere k) (inside j k));
  }

  pub spots-few : (spots : List ℕ) (n : ℕ) → spots ≡ olds → n ≡ rank → length spots ≤ n
  spots-few spots n e en = let l = ap length e ∙ olds-length in omega (arith, l, en)

  pub spots-below : (spots : List ℕ) → spots ≡ olds → (k d : ℕ) → k < length spots → get_or spots k d < 32
  spots-below spots e k d h =
      let l = ap length e ∙ olds-length in
      let k2 : k < rank = omega (arith, h, l) in
      let b = olds-below k k2 in
      let same = get_or-inside olds k d 0 (let m = olds-length in omega (arith, k2, m)) in
      rw (e, same) (omega (arith, b, few))

  -- the view, as it is made
  pub newaxis-made : (ds dims : List Bounds) (names labs : List (List ℕ)) (spots : List ℕ) (n : ℕ) (ms : List OutMap)
      → ds ≡ u.domain.dims → names ≡ u.domain.labels → spots ≡ olds → n ≡ all
      → dims ≡ map (λ position. axis_by ds (spot_in spots position)) (range_with_len 0 n)
      → labs ≡ map (λ position. axis_label_by names (spot_in spots position)) (range_with_len 0 n)
      → ms ≡ map passed spots
      → (let b : DomainAndMaps = record { domain = record { dims = dims; labels = labs }; maps = ms } in b) ≡ newaxis_view u added
  newaxis-made ds dims names labs spots n ms eo en ep ek ed el em =
      let d : dims ≡ news = ed ∙ ap (λ (os : List Bounds). map (λ position. axis_by os (spot_in spots position)) (range_with_len 0 n)) eo
      ∙ ap (λ (ps : List ℕ). map (λ position. axis_by u.domain.dims (spot_in ps position)) (range_with_len 0 n)) ep
      ∙ ap (λ (k : ℕ). map (λ position. axis_by u.domain.dims (spot_in olds position)) (range_with_len 0 k)) ek in
      let l : labs ≡ labels = el ∙ ap (λ (os : List (List ℕ)). map (λ position. axis_label_by os (spot_in spots position)) (range_with_len 0 n)) en
      ∙ ap (λ (ps : List ℕ). map (λ position. axis_label_by u.domain.labels (spot_in ps position)) (range_with_len 0 n)) ep
      ∙ ap (λ (k : ℕ). map (λ position. axis_label_by u.domain.labels (spot_in olds position)) (range_with_len 0 k)) ek in
      let m : ms ≡ maps = em ∙ ap (map passed) ep ∙ sym (read-each passed olds 0)
      ∙ ap (λ (k : ℕ). map (λ i. passed (get_or olds i 0)) (range_with_len 0 k)) olds-length in
      ap (λ (x : List Bounds). let b : DomainAndMaps = record { domain = record { dims = x; labels = labs }; maps = ms } in b) d
      ∙ ap (λ (x : List (List ℕ)). let b : DomainAndMaps = record { domain = record { dims = news; labels = x }; maps = ms } in b) l
      ∙ ap (λ (x : List OutMap). let b : DomainAndMaps = record { domain = record { dims = news; labels = labels }; maps = x } in b) m
