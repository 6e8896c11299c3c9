-- Dimensions in another order.
use Rattle.index_intervals.proofs.Laws.{preimage-ordered}
use Rattle.std.proofs.Common.{◌≡◌, ◌≢◌, ◌∙◌, ℕ, ◌+◌, ◌<◌, true, false, List, [], ◌++◌, length, map, get_or, refl, sym, ap, arith, pos, IsTrue}
use Rattle.std.proofs.lemmas.Bool.Decides.{nat_tests}
use Rattle.std.specs.List.{range_with_len}
use Rattle.index_intervals.specs.Bounds.{Bounds, AreBounds}
use Rattle.index_transform.specs.declared.map.OutMap.{OutMap}
use Rattle.index_intervals.specs.Edges.{preimage_lower, preimage_upper}
use Rattle.index_transform.specs.Maps.{is_map, is_plain, are_labels, has_ranks}
use Rattle.transform_composition.specs.Inside.{is_inside_by}
use Rattle.transform_composition.specs.Reading.{point}
use Rattle.transform_composition.specs.Composing.{nowhere}
use Rattle.index_transform.specs.Transforms.{DomainAndMaps, IsTransform, KeepsRules}
use Rattle.dim_changes.specs.Dims.{dim_at, label_at}
use Rattle.dim_expressions.specs.Left.{passed}
use Rattle.dim_expressions.specs.Transpose.{carried, transpose_view}
use Rattle.dim_expressions.proofs.CarriedLaws.{AreDims, IsCarried, IsCarried-of}
use Rattle.dim_changes.proofs.Laws.{AreLabels-from, are_labels-true, AreLabels-taken, range-length, range-at, range-all, map-map, IsTight, IsTight-one, preimage_lower-same, preimage_upper-same, is_strided_from, preimages-one, IsTightTransform}
use Rattle.dim_expressions.proofs.OindexLaws.{labels-length, ranks-few}
use Rattle.dim_expressions.proofs.PassedLaws.{ends_inside-same}

module _ (u : DomainAndMaps) (selected targets : List ℕ) (t : IsTransform u)
    (bounds : (i : ℕ) → i < length u.domain.dims → AreBounds (get_or u.domain.dims i point))
    (f : AreDims (length u.domain.dims) selected) (g : AreDims (length u.domain.dims) targets) (same : length targets ≡ length selected) where
  abbrev pub rank : ℕ
  rank = length u.domain.dims

  abbrev pub old : ℕ → ℕ
  old = carried rank targets selected

  abbrev pub new : ℕ → ℕ
  new = carried rank selected targets

  abbrev pub news : List Bounds
  news = map (λ position. dim_at u.domain.dims (old position)) (range_with_len 0 rank)

  abbrev pub labels : List (List ℕ)
  labels = map (λ position. label_at u.domain.labels (old position)) (range_with_len 0 rank)

  abbrev pub maps : List OutMap
  maps = map (λ dim. passed (new dim)) (range_with_len 0 rank)

  back : (dim : ℕ) → dim < rank → IsCarried rank selected targets f g (sym same) dim (new dim)
  back dim h = IsCarried-of rank selected targets f g (sym same) dim h

  forth : (position : ℕ) → position < rank → IsCarried rank targets selected g f same position (old position)
  forth position h = IsCarried-of rank targets selected g f same position h

  dim-at : (i : ℕ) (d : Bounds) → i < rank → get_or news i d ≡ dim_at u.domain.dims (old i)
  dim-at i d h = range-at (λ position. dim_at u.domain.dims (old position)) 0 rank i d h ∙ (let z : 0 + i ≡ i = omega arith in ap (λ k. dim_at u.domain.dims (old k)) z)

  map-at : (i : ℕ) (m : OutMap) → i < rank → get_or maps i m ≡ passed (new i)
  map-at i m h = range-at (λ dim. passed (new dim)) 0 rank i m h ∙ (let z : 0 + i ≡ i = omega arith in ap (λ k. passed (new k)) z)

  label-at : (i : ℕ) → i < rank → get_or labels i [] ≡ label_at u.domain.labels (old i)
  label-at i h = range-at (λ position. label_at u.domain.labels (old position)) 0 rank i [] h ∙ (let z : 0 + i ≡ i = omega arith in ap (λ k. label_at u.domain.labels (old k)) z)

  dims-length : length news ≡ rank
  dims-length = range-length (λ position. dim_at u.domain.dims (old position)) 0 rank

  labels-many : length labels ≡ rank
  labels-many = range-length (λ position. label_at u.domain.labels (old position)) 0 rank

  maps-length : length maps ≡ rank
  maps-length = range-length (λ dim. passed (new dim)) 0 rank

  fit : (dim : ℕ) → dim < rank → is_map news (passed (new dim)) ≡ true
  fit dim h = let b = (back dim h).below in let l = dims-length in grind (arith, nat_tests, b, l)

  good_labels : are_labels labels ≡ true
  good_labels = are_labels-true labels (AreLabels-taken u.domain.labels labels old (AreLabels-from u.domain.labels t.labels) taken once)
    where
      taken : (i : ℕ) → i < length labels → get_or labels i [] ≢ [] → (old i < length u.domain.labels) × (get_or labels i [] ≡ get_or u.domain.labels (old i) [])
      taken i h n =
          let l = labels-many in
          let k : i < rank = omega (arith, h, l) in
          let b = (forth i k).below in
          let m = labels-length u t in
          (omega (arith, b, m), label-at i k)

      once : (i j : ℕ) → i < length labels → j < length labels → old i ≡ old j → get_or labels i [] ≢ [] → get_or labels j [] ≢ [] → i ≡ j
      once i j h k e m n =
          let l = labels-many in
          sym ((forth i (omega (arith, h, l))).back) ∙ ap new e ∙ (forth j (omega (arith, k, l))).back

  ranks : IsTrue (has_ranks (record { dims = news; labels = labels }) maps)
  ranks =
      let a = dims-length in
      let b = labels-many in
      let c = maps-length in
      let few = ranks-few u t in
      grind (arith, nat_tests, a, b, c, few)

  -- what is built is a transform
  pub IsTransform-transpose : KeepsRules (transpose_view u selected targets)
  IsTransform-transpose = record {
    ranks = ranks;
    labels = good_labels;
    maps = range-all (is_map news) (λ dim. passed (new dim)) 0 rank (λ i h. let z : 0 + i ≡ i = omega arith in rw z (fit i h));
    plain = range-all is_plain (λ dim. passed (new dim)) 0 rank (λ i h. refl);
  }

  tight : (position : ℕ) → position < rank → IsTight position (get_or news position point) u.domain.dims maps
  tight position h =
      let w = forth position h in
      let k : old position < rank = w.below in
      let lm = maps-length in
      let at : get_or news position point ≡ get_or u.domain.dims (old position) point = dim-at position point h in
      let m : get_or maps (old position) nowhere ≡ passed position = map-at (old position) nowhere k ∙ ap passed w.back in
      let low = preimages-one preimage_lower position u.domain.dims maps (old position) (pos 0) (pos 1) (omega (arith, k, lm)) lm m apart in
      let high = preimages-one preimage_upper position u.domain.dims maps (old position) (pos 0) (pos 1) (omega (arith, k, lm)) lm m apart in
      rw at
      (IsTight-one position (get_or u.domain.dims (old position) point) u.domain.dims maps _ _ (bounds (old position) k) low high
      (preimage-ordered (get_or u.domain.dims (old position) point) (pos 0) (pos 1) (λ q. absurd (let no_such : ⊥ = cc in no_such)) (bounds (old position) k))
      (λ _. preimage_lower-same (get_or u.domain.dims (old position) point)) (λ _. preimage_upper-same (get_or u.domain.dims (old position) point)))
    where
      apart : (j : ℕ) → j < length maps → j ≢ old position → is_strided_from position (get_or maps j nowhere) ≡ false
      apart j b n =
          let lm = maps-length in
          let k : j < rank = omega (arith, b, lm) in
          let e = map-at j nowhere k in
          let other : new j ≢ position = λ q. n (sym ((back j k).back) ∙ ap old q) in
          rw e (grind (arith, nat_tests, other))

  inside : (dim : ℕ) → dim < rank → is_inside_by news (get_or u.domain.dims dim point) (passed (new dim)) ≡ true
  inside dim h =
      let w = back dim h in
      let at : get_or news (new dim) (get_or u.domain.dims dim point) ≡ get_or u.domain.dims dim point =
      dim-at (new dim) (get_or u.domain.dims dim point) w.below ∙ ap (dim_at u.domain.dims) w.back in
      rw at (ends_inside-same (get_or u.domain.dims dim point) (bounds dim h))

  -- and tightening leaves it as it is
  pub IsTightTransform-transpose : IsTightTransform news u.domain.dims maps
  IsTightTransform-transpose = record {
    outputs = maps-length;
    fit = range-all (is_map news) (λ dim. passed (new dim)) 0 rank (λ i h. let z : 0 + i ≡ i = omega arith in rw z (fit i h));
    tight = λ i h. tight i (let l = dims-length in omega (arith, h, l));
    inside = λ j h. (let l = maps-length in let k : j < rank = omega (arith, h, l) in rw (map-at j nowhere k) (inside j k));
  }

  old-below : (k d : ℕ) → k < rank → get_or (map old (range_with_len 0 rank)) k d < rank
  old-below k d h =
      let at = range-at old 0 rank k d h ∙ (let z : 0 + k ≡ k = omega arith in ap old z) in
      let b = (forth k h).below in
      rw at b

  new-below : (k d : ℕ) → k < rank → get_or (map new (range_with_len 0 rank)) k d < rank
  new-below k d h =
      let at = range-at new 0 rank k d h ∙ (let z : 0 + k ≡ k = omega arith in ap new z) in
      let b = (back k h).below in
      rw at b

  -- old dimensions of positions, and positions of old dimensions, as they are found
  pub olds-below : (from : List ℕ) (n : ℕ) → n ≡ rank → from ≡ map old (range_with_len 0 rank) → (k d : ℕ) → k < length from → get_or from k d < n
  olds-below from n en ef k d h =
      let l = ap length ef ∙ range-length old 0 rank in
      let b = old-below k d (omega (arith, h, l)) in
      rw (ef, en) b

  pub news-below : (to : List ℕ) → to ≡ map new (range_with_len 0 rank) → (k d : ℕ) → k < length to → get_or to k d < 32
  news-below to ef k d h =
      let l = ap length ef ∙ range-length new 0 rank in
      let b = new-below k d (omega (arith, h, l)) in
      let few = ranks-few u t in
      rw ef (omega (arith, b, few))

  -- the view, as it is made
  pub transpose-made : (olds pre dims : List Bounds) (names pre2 labs : List (List ℕ)) (from to : List ℕ) (ms : List OutMap)
      → olds ≡ u.domain.dims → names ≡ u.domain.labels → from ≡ map old (range_with_len 0 rank) → to ≡ map new (range_with_len 0 rank)
      → pre ≡ [] → pre2 ≡ [] → dims ≡ pre ++ map (dim_at olds) from → labs ≡ pre2 ++ map (label_at names) from → ms ≡ map passed to
      → (let b : DomainAndMaps = record { domain = record { dims = dims; labels = labs }; maps = ms } in b) ≡ transpose_view u selected targets
  transpose-made olds pre dims names pre2 labs from to ms eo en ef et e1 e2 ed el em =
      let d : dims ≡ news = ed ∙ ap (λ (p : List Bounds). p ++ map (dim_at olds) from) e1 ∙ ap (λ (os : List Bounds). map (dim_at os) from) eo
      ∙ ap (map (dim_at u.domain.dims)) ef ∙ map-map (dim_at u.domain.dims) old (range_with_len 0 rank) in
      let l : labs ≡ labels = el ∙ ap (λ (p : List (List ℕ)). p ++ map (label_at names) from) e2 ∙ ap (λ (os : List (List ℕ)). map (label_at os) from) en
      ∙ ap (map (label_at u.domain.labels)) ef ∙ map-map (label_at u.domain.labels) old (range_with_len 0 rank) in
      let m : ms ≡ maps = em ∙ ap (map passed) et ∙ map-map passed new (range_with_len 0 rank) in
      ap (λ (x : List Bounds). let b : DomainAndMaps = record { domain = record { dims = x; labels = labs }; maps = ms } in b) d
      ∙ ap (λ (x : List (List ℕ)). let b : DomainAndMaps = record { domain = record { dims = news; labels = x }; maps = ms } in b) l
      ∙ ap (λ (x : List OutMap). let b : DomainAndMaps = record { domain = record { dims = news; labels = labels }; maps = x } in b) m
