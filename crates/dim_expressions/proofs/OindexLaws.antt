-- Index arrays, each along a dimension of its own in place of a selected one.
use Rattle.index_intervals.proofs.Laws.{preimage-ordered}
use Rattle.std.proofs.Common.{◌≡◌, ◌≢◌, ◌∙◌, ◌⊎◌, inl, inr, cond, Ok, ℕ, ◌+◌, ◌<◌, ◌≤◌, ◌==◌, ◌&&◌, nat_le, Bool, true, false, List, [], length, map, get_or, refl, sym, ap, arith, ℤ, pos, Option, Some, None, IsTrue}
use Rattle.std.proofs.lemmas.Bool.Decides.{nat_tests}
use Rattle.std.specs.List.{list_all, list_any, range_with_len}
use Rattle.index_intervals.specs.Bounds.{Bounds, AreBounds}
use Rattle.index_transform.specs.declared.map.OutMap.{OutMap}
use Rattle.index_transform.specs.declared.map.OutMap.TheVariants.{Constant}
use Rattle.index_intervals.specs.Edges.{preimage_lower, preimage_upper}
use Rattle.index_transform.specs.Maps.{is_map, is_plain, fits, are_entries, are_labels, has_ranks}
use Rattle.transform_composition.specs.Inside.{is_inside_by}
use Rattle.index_transform.specs.Values.{is_effective, map_value}
use Rattle.index_transform.specs.Walks.{IsCell}
use Rattle.transform_composition.specs.Reading.{depends_on}
use Rattle.dim_changes.specs.Causes.{over}
use Rattle.transform_composition.specs.Reading.{point}
use Rattle.transform_composition.specs.Composing.{nowhere}
use Rattle.index_transform.specs.Transforms.{DomainAndMaps, IsTransform, KeepsRules}
use Rattle.dim_changes.specs.Dims.{spot_in, dim_at}
use Rattle.dim_expressions.specs.Left.{passed}
use Rattle.dim_expressions.specs.Arrays.{array_map, array_dim, array_at, sizes_along, short_map}
use Rattle.dim_expressions.specs.Oindex.{dim_by, label_by, map_by, built_by, built_map, indexed_dim, indexed_label, indexed_map, oindex_view}
use Rattle.dim_changes.proofs.Laws.{AreLabels-from, are_labels-true, AreLabels-taken, range-length, range-at, range-all, IsTight, IsTight-none, IsTight-one, preimage_lower-same, preimage_upper-same, is_strided_from, preimages-none, preimages-one, IsTightTransform}
use Rattle.dim_expressions.proofs.PassedLaws.{ends_inside-same, entries_inside-same, entries-index, cell_count-along, last-index, fits-along}
use Rattle.dim_expressions.proofs.ArrayCauses.{IsListFor, first-effective}
use Rattle.dim_expressions.proofs.UnreadLaws.{AreSameForAll, with_maps, cell-view, entry-effective}
use Rattle.cells.proofs.Laws.{both}

-- a list as an index array along a dimension
pub are_entries-along : (rank dim : ℕ) (b : Bounds) (entries : List ℤ) → dim < rank → list_all (is_effective b) entries ≡ true → nat_le (length entries) 4194304 ≡ true
    → are_entries (sizes_along rank dim (length entries)) entries ≡ true
are_entries-along rank dim b entries h good few =
    let c = cell_count-along rank dim (length entries) h in
    let same : (length entries == length entries) ≡ true = grind (arith, nat_tests) in
    let index = entries-index b entries good in
    rw (c, few, same, index) refl

-- a transform has one label per dimension, 32 dimensions at most
pub labels-length : (u : DomainAndMaps) → IsTransform u → length u.domain.labels ≡ length u.domain.dims
labels-length u t =
    let p = both (nat_le (length u.domain.dims) 32 && (length u.domain.labels == length u.domain.dims)) (nat_le (length u.maps) 32) t.ranks in
    let q = both (nat_le (length u.domain.dims) 32) (length u.domain.labels == length u.domain.dims) p.0 in
    grind (arith, nat_tests, q.1)

pub ranks-few : (u : DomainAndMaps) → IsTransform u → length u.domain.dims ≤ 32
ranks-few u t =
    let p = both (nat_le (length u.domain.dims) 32 && (length u.domain.labels == length u.domain.dims)) (nat_le (length u.maps) 32) t.ranks in
    let q = both (nat_le (length u.domain.dims) 32) (length u.domain.labels == length u.domain.dims) p.0 in
    grind (arith, nat_tests, q.0)

module _ (u : DomainAndMaps) (selected : List ℕ) (arrays : List (List ℤ)) (t : IsTransform u)
    (bounds : (i : ℕ) → i < length u.domain.dims → AreBounds (get_or u.domain.dims i point))
    (news_bounds : (i : ℕ) → i < length u.domain.dims → AreBounds (get_or (map (indexed_dim u.domain.dims selected arrays) (range_with_len 0 (length u.domain.dims))) i point))
    (good : (dim spot : ℕ) → spot_in selected dim ≡ Some spot → IsListFor u dim (array_at arrays spot)) where
  abbrev pub rank : ℕ
  rank = length u.domain.dims

  abbrev pub news : List Bounds
  news = map (indexed_dim u.domain.dims selected arrays) (range_with_len 0 rank)

  abbrev pub maps : List OutMap
  maps = map (built_map rank selected arrays) (range_with_len 0 rank)

  dim-at : (i : ℕ) (d : Bounds) → i < rank → get_or news i d ≡ indexed_dim u.domain.dims selected arrays i
  dim-at i d h = range-at (indexed_dim u.domain.dims selected arrays) 0 rank i d h ∙ (let z : 0 + i ≡ i = omega arith in ap (indexed_dim u.domain.dims selected arrays) z)

  map-at : (i : ℕ) (m : OutMap) → i < rank → get_or maps i m ≡ built_map rank selected arrays i
  map-at i m h = range-at (built_map rank selected arrays) 0 rank i m h ∙ (let z : 0 + i ≡ i = omega arith in ap (built_map rank selected arrays) z)

  fit : (dim : ℕ) → dim < rank → is_map news (built_map rank selected arrays dim) ≡ true
  fit dim h = told (spot_in selected dim) refl
    where
      l : length news ≡ rank
      l = range-length (indexed_dim u.domain.dims selected arrays) 0 rank

      short : (spot : ℕ) → spot_in selected dim ≡ Some spot → (b : Bool) → nat_le (length (array_at arrays spot)) 4194304 ≡ b
          → is_map news (cond b (array_map rank dim (array_at arrays spot)) (Constant (get_or (array_at arrays spot) 0 (pos 0)))) ≡ true
      short spot e false few = refl
      short spot e true few =
          let g = good dim spot e in
          let at : get_or news dim (array_dim (array_at arrays spot)) ≡ array_dim (array_at arrays spot) =
          dim-at dim (array_dim (array_at arrays spot)) h ∙ ap (dim_by u.domain.dims arrays dim) e in
          let f = fits-along news dim (array_at arrays spot) (last-index (array_at arrays spot) few) at in
          let f2 : fits news (sizes_along rank dim (length (array_at arrays spot))) ≡ true =
          ap (λ (n : ℕ). fits news (sizes_along n dim (length (array_at arrays spot)))) (sym l) ∙ f in
          let a = are_entries-along rank dim (dim_at u.domain.dims dim) (array_at arrays spot) h g.effective few in
          rw (f2, a) refl

      told : (o : Option ℕ) → spot_in selected dim ≡ o → is_map news (built_by rank arrays dim o) ≡ true
      told None e = grind (arith, nat_tests, l)
      told (Some spot) e = short spot e (nat_le (length (array_at arrays spot)) 4194304) refl

  plain : (dim : ℕ) → is_plain (built_map rank selected arrays dim) ≡ true
  plain dim = told (spot_in selected dim)
    where
      short : (spot : ℕ) (b : Bool) → is_plain (cond b (array_map rank dim (array_at arrays spot)) (Constant (get_or (array_at arrays spot) 0 (pos 0)))) ≡ true
      short spot true = refl
      short spot false = refl

      told : (o : Option ℕ) → is_plain (built_by rank arrays dim o) ≡ true
      told None = refl
      told (Some spot) = short spot (nat_le (length (array_at arrays spot)) 4194304)

  labels : are_labels (map (indexed_label u.domain.labels selected) (range_with_len 0 (length u.domain.labels))) ≡ true
  labels = are_labels-true (map (indexed_label u.domain.labels selected) (range_with_len 0 (length u.domain.labels)))
      (AreLabels-taken u.domain.labels (map (indexed_label u.domain.labels selected) (range_with_len 0 (length u.domain.labels))) (λ i. i) (AreLabels-from u.domain.labels t.labels) taken (λ i j a b e m n. e))
    where
      l : length (map (indexed_label u.domain.labels selected) (range_with_len 0 (length u.domain.labels))) ≡ length u.domain.labels
      l = range-length (indexed_label u.domain.labels selected) 0 (length u.domain.labels)

      told : (i : ℕ) → i < length u.domain.labels → (o : Option ℕ)
          → get_or (map (indexed_label u.domain.labels selected) (range_with_len 0 (length u.domain.labels))) i [] ≡ label_by u.domain.labels i o
          → get_or (map (indexed_label u.domain.labels selected) (range_with_len 0 (length u.domain.labels))) i [] ≢ []
          → (i < length u.domain.labels) × (get_or (map (indexed_label u.domain.labels selected) (range_with_len 0 (length u.domain.labels))) i [] ≡ get_or u.domain.labels i [])
      told i h (Some spot) e n = absurd (n e)
      told i h None e n = (h, e)

      taken : (i : ℕ) → i < length (map (indexed_label u.domain.labels selected) (range_with_len 0 (length u.domain.labels)))
          → get_or (map (indexed_label u.domain.labels selected) (range_with_len 0 (length u.domain.labels))) i [] ≢ []
          → (i < length u.domain.labels) × (get_or (map (indexed_label u.domain.labels selected) (range_with_len 0 (length u.domain.labels))) i [] ≡ get_or u.domain.labels i [])
      taken i h n =
          let k : i < length u.domain.labels = omega (arith, h, l) in
          let z : 0 + i ≡ i = omega arith in
          told i k (spot_in selected i) (range-at (indexed_label u.domain.labels selected) 0 (length u.domain.labels) i [] k ∙ ap (indexed_label u.domain.labels selected) z) n

  ranks : IsTrue (has_ranks (oindex_view u selected arrays).domain maps)
  ranks =
      let a = range-length (indexed_dim u.domain.dims selected arrays) 0 rank in
      let b = range-length (indexed_label u.domain.labels selected) 0 (length u.domain.labels) in
      let same = labels-length u t in
      let c = range-length (built_map rank selected arrays) 0 rank in
      let few = ranks-few u t in
      grind (arith, nat_tests, a, b, c, few, same)

  -- what is built is a transform
  pub IsTransform-oindex : KeepsRules (with_maps (oindex_view u selected arrays) maps)
  IsTransform-oindex = record {
    ranks = ranks;
    labels = labels;
    maps = range-all (is_map news) (built_map rank selected arrays) 0 rank (λ i h. let z : 0 + i ≡ i = omega arith in rw z (fit i h));
    plain = range-all is_plain (built_map rank selected arrays) 0 rank (λ i h. plain (0 + i));
  }

  not_short : (dim n spot : ℕ) → is_strided_from dim (short_map rank n (array_at arrays spot)) ≡ false
  not_short dim n spot = told (nat_le (length (array_at arrays spot)) 4194304)
    where
      told : (b : Bool) → is_strided_from dim (cond b (array_map rank n (array_at arrays spot)) (Constant (get_or (array_at arrays spot) 0 (pos 0)))) ≡ false
      told true = refl
      told false = refl

  not_from : (dim other : ℕ) → other ≢ dim → is_strided_from dim (built_map rank selected arrays other) ≡ false
  not_from dim other n = told (spot_in selected other)
    where
      told : (o : Option ℕ) → is_strided_from dim (built_by rank arrays other o) ≡ false
      told None = grind (arith, nat_tests, n)
      told (Some spot) = not_short dim other spot

  tight : (dim : ℕ) → dim < rank → IsTight dim (get_or news dim point) u.domain.dims maps
  tight dim h = told (spot_in selected dim) refl
    where
      lm : length maps ≡ rank
      lm = range-length (built_map rank selected arrays) 0 rank

      apart : (j : ℕ) → j < length maps → j ≢ dim → is_strided_from dim (get_or maps j nowhere) ≡ false
      apart j b n = let k : j < rank = omega (arith, b, lm) in let e = map-at j nowhere k in rw e (not_from dim j n)

      told : (o : Option ℕ) → spot_in selected dim ≡ o → IsTight dim (get_or news dim point) u.domain.dims maps
      told None e =
          let at : get_or news dim point ≡ get_or u.domain.dims dim point = dim-at dim point h ∙ ap (dim_by u.domain.dims arrays dim) e in
          let m : get_or maps dim nowhere ≡ passed dim = map-at dim nowhere h ∙ ap (built_by rank arrays dim) e in
          let k : dim < length maps = omega (arith, h, lm) in
          let low = preimages-one preimage_lower dim u.domain.dims maps dim (pos 0) (pos 1) k lm m apart in
          let high = preimages-one preimage_upper dim u.domain.dims maps dim (pos 0) (pos 1) k lm m apart in
          rw at
          (IsTight-one dim (get_or u.domain.dims dim point) u.domain.dims maps _ _ (bounds dim h) low high
          (preimage-ordered (get_or u.domain.dims dim point) (pos 0) (pos 1) (λ q. absurd (let no_such : ⊥ = cc in no_such)) (bounds dim h))
          (λ _. preimage_lower-same (get_or u.domain.dims dim point)) (λ _. preimage_upper-same (get_or u.domain.dims dim point)))
      told (Some spot) e =
          let at : get_or news dim point ≡ array_dim (array_at arrays spot) = dim-at dim point h ∙ ap (dim_by u.domain.dims arrays dim) e in
          let none : (j : ℕ) → j < length maps → is_strided_from dim (get_or maps j nowhere) ≡ false = λ j b. whole j b (j == dim) refl in
          let own : AreBounds (array_dim (array_at arrays spot)) = rw at at (news_bounds dim h) in
          rw at
          (IsTight-none dim (array_dim (array_at arrays spot)) u.domain.dims maps own
          (preimages-none preimage_lower dim u.domain.dims maps none) (preimages-none preimage_upper dim u.domain.dims maps none))
        where
          whole : (j : ℕ) → j < length maps → (b : Bool) → (j == dim) ≡ b → is_strided_from dim (get_or maps j nowhere) ≡ false
          whole j k false q = apart j k (grind (arith, nat_tests))
          whole j k true q =
              let same : j ≡ dim = grind (arith, nat_tests) in
              let m : get_or maps dim nowhere ≡ short_map rank dim (array_at arrays spot) = map-at dim nowhere h ∙ ap (built_by rank arrays dim) e in
              rw (same, m) (not_short dim dim spot)

  inside : (dim : ℕ) → dim < rank → is_inside_by news (get_or u.domain.dims dim point) (built_map rank selected arrays dim) ≡ true
  inside dim h = told (spot_in selected dim) refl
    where
      short : (spot : ℕ) → spot_in selected dim ≡ Some spot → (b : Bool) → nat_le (length (array_at arrays spot)) 4194304 ≡ b
          → is_inside_by news (get_or u.domain.dims dim point) (cond b (array_map rank dim (array_at arrays spot)) (Constant (get_or (array_at arrays spot) 0 (pos 0)))) ≡ true
      short spot e true few = entries_inside-same (get_or u.domain.dims dim point) (array_at arrays spot) ((good dim spot e).effective)
      short spot e false few = first-effective (is_effective (get_or u.domain.dims dim point)) (array_at arrays spot) ((good dim spot e).effective) few

      told : (o : Option ℕ) → spot_in selected dim ≡ o → is_inside_by news (get_or u.domain.dims dim point) (built_by rank arrays dim o) ≡ true
      told None e =
          let at : get_or news dim (get_or u.domain.dims dim point) ≡ get_or u.domain.dims dim point =
          dim-at dim (get_or u.domain.dims dim point) h ∙ ap (dim_by u.domain.dims arrays dim) e in
          rw at (ends_inside-same (get_or u.domain.dims dim point) (bounds dim h))
      told (Some spot) e = short spot e (nat_le (length (array_at arrays spot)) 4194304) refl

  -- and tightening leaves it as it is
  pub IsTightTransform-oindex : IsTightTransform news u.domain.dims maps
  IsTightTransform-oindex = record {
    outputs = range-length (built_map rank selected arrays) 0 rank;
    fit = range-all (is_map news) (built_map rank selected arrays) 0 rank (λ i h. let z : 0 + i ≡ i = omega arith in rw z (fit i h));
    tight = λ i h. tight i (let l = range-length (indexed_dim u.domain.dims selected arrays) 0 rank in omega (arith, h, l));
    inside = λ j h. (let l = range-length (built_map rank selected arrays) 0 rank in let k : j < rank = omega (arith, h, l) in rw (map-at j nowhere k) (inside j k));
  }

  -- What is composed is the view where an output needs it.

  abbrev view : DomainAndMaps
  view = oindex_view u selected arrays

  old-at : (i : ℕ) → i < rank → get_or view.maps i nowhere ≡ indexed_map rank selected arrays i
  old-at i h = range-at (indexed_map rank selected arrays) 0 rank i nowhere h ∙ (let z : 0 + i ≡ i = omega arith in ap (indexed_map rank selected arrays) z)

  below : (j : ℕ) → j < length view.maps → j < rank
  below j h = let l = range-length (indexed_map rank selected arrays) 0 rank in omega (arith, h, l)

  pub lengths-oindex : length view.maps ≡ length maps
  lengths-oindex = range-length (indexed_map rank selected arrays) 0 rank ∙ sym (range-length (built_map rank selected arrays) 0 rank)

  pub same-oindex : AreSameForAll view.maps maps u.maps
  same-oindex j h = told (spot_in selected j) refl (old-at j (below j h)) (map-at j nowhere (below j h))
    where
      needed : (spot : ℕ) → get_or view.maps j nowhere ≡ array_map rank j (array_at arrays spot) → get_or maps j nowhere ≡ short_map rank j (array_at arrays spot)
          → (nat_le (length (array_at arrays spot)) 4194304 ≡ true) ⊎ (list_any (depends_on j) u.maps ≡ false)
          → (get_or view.maps j nowhere ≡ get_or maps j nowhere) ⊎ (list_any (depends_on j) u.maps ≡ false)
      needed spot v w (inl few) = let short : short_map rank j (array_at arrays spot) ≡ array_map rank j (array_at arrays spot) = rw few refl in inl (v ∙ sym (w ∙ short))
      needed spot v w (inr un) = inr un

      told : (o : Option ℕ) → spot_in selected j ≡ o → get_or view.maps j nowhere ≡ indexed_map rank selected arrays j → get_or maps j nowhere ≡ built_map rank selected arrays j
          → (get_or view.maps j nowhere ≡ get_or maps j nowhere) ⊎ (list_any (depends_on j) u.maps ≡ false)
      told None e v w = inl (v ∙ ap (map_by rank arrays j) e ∙ sym (w ∙ ap (built_by rank arrays j) e))
      told (Some spot) e v w = needed spot (v ∙ ap (map_by rank arrays j) e) (w ∙ ap (built_by rank arrays j) e) ((good j spot e).needed)

  pub count-oindex : length view.maps ≡ length u.domain.dims
  count-oindex = range-length (indexed_map rank selected arrays) 0 rank

  pub numbers-oindex : (made : DomainAndMaps) → over u (with_maps view maps) ≡ Ok made → (cell : List ℤ) → IsCell made.domain.dims cell → (j : ℕ) → j < length view.maps
      → (get_or view.maps j nowhere ≡ get_or maps j nowhere) ⊎ (is_effective (get_or u.domain.dims j point) (map_value news cell (get_or view.maps j nowhere)) ≡ true)
  numbers-oindex made e cell c j h = told (spot_in selected j) refl (old-at j (below j h)) (map-at j nowhere (below j h))
    where
      told : (o : Option ℕ) → spot_in selected j ≡ o → get_or view.maps j nowhere ≡ indexed_map rank selected arrays j → get_or maps j nowhere ≡ built_map rank selected arrays j
          → (get_or view.maps j nowhere ≡ get_or maps j nowhere) ⊎ (is_effective (get_or u.domain.dims j point) (map_value news cell (get_or view.maps j nowhere)) ≡ true)
      told None q v w = inl (v ∙ ap (map_by rank arrays j) q ∙ sym (w ∙ ap (built_by rank arrays j) q))
      told (Some spot) q v w =
          let d = cell-view u (with_maps view maps) made cell e c in
          let at : get_or news j (array_dim (array_at arrays spot)) ≡ array_dim (array_at arrays spot) =
          dim-at j (array_dim (array_at arrays spot)) (below j h) ∙ ap (dim_by u.domain.dims arrays j) q in
          inr (ap (λ (m : OutMap). is_effective (get_or u.domain.dims j point) (map_value news cell m)) (v ∙ ap (map_by rank arrays j) q)
          ∙ entry-effective news rank j (get_or u.domain.dims j point) (array_at arrays spot) cell (range-length (indexed_dim u.domain.dims selected arrays) 0 rank) (below j h) at d ((good j spot q).effective))
