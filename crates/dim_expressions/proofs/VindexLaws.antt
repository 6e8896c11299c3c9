-- Index arrays along one first dimension, in place of several.
use Rattle.std.proofs.Common.{◌≡◌, ◌∙◌, ◌⊎◌, inl, inr, cond, nat_le, zero, suc, ℕ, ◌+◌, ◌<◌, ◌==◌, ◌&&◌, Bool, true, false, not, List, [], ◌∷◌, ◌++◌, length, get_or, refl, sym, ap, subst, arith, ℤ, pos, ◌-ℤ◌, Option, Some, None, Ok}
use Rattle.std.proofs.lemmas.Bool.Decides.{nat_tests}
use Rattle.std.specs.List.{All, list_all, list_any}
use Rattle.index_intervals.specs.Bounds.{Bounds, AreBounds, are_bounds}
use Rattle.index_intervals.proofs.Laws.{AreBounds-true}
use Rattle.index_transform.specs.declared.map.OutMap.{OutMap}
use Rattle.index_transform.specs.declared.map.OutMap.TheVariants.{Constant}
use Rattle.index_intervals.specs.Edges.{preimage_lower, preimage_upper}
use Rattle.index_transform.specs.Maps.{is_map, is_plain, fits, are_entries}
use Rattle.index_transform.specs.Values.{is_effective, map_value}
use Rattle.index_transform.specs.Walks.{IsCell}
use Rattle.transform_composition.specs.Inside.{is_inside_by}
use Rattle.transform_composition.specs.Reading.{depends_on, point}
use Rattle.transform_composition.specs.Composing.{nowhere}
use Rattle.transform_composition.specs.Tightening.{tighten_answer}
use Rattle.index_transform.specs.Transforms.{DomainAndMaps, IsTransform, KeepsRules}
use Rattle.dim_changes.specs.Causes.{first_cause, over}
use Rattle.dim_changes.specs.Dims.{spot_in, others, dim_at}
use Rattle.dim_expressions.specs.Left.{left_by, left_map}
use Rattle.dim_expressions.specs.Arrays.{sizes_along, array_map, array_dim, array_at, array_causes}
use Rattle.dim_expressions.specs.Vindex.{are_joined, built_map, vindex_map, vindex_view}
use Rattle.dim_expressions.proofs.ArrayCauses.{IsListFor, arrays-fit, first-effective}
use Rattle.dim_expressions.proofs.DiagonalLaws.{one_fewer}
use Rattle.dim_expressions.proofs.OindexLaws.{are_entries-along}
use Rattle.dim_expressions.proofs.PassedLaws.{fits-along, last-index, entries_inside-same}
use Rattle.dim_expressions.proofs.UnreadLaws.{AreSameForAll, with_maps, cell-view, entry-effective}
use Rattle.dim_changes.proofs.Laws.{spot_in-Some, IsTight-none, is_strided_from, preimages-none, IsTightened, IsTightened-same, tighten_answer-Ok}
use Rattle.dim_expressions.proofs.WithoutLaws.{GoIn, becomes, is_transform, maps, stay, maps_length, map_at, stay_length}
use Rattle.cells.proofs.Laws.{both, both_true}

all_at : (p : List ℤ → Bool) (xs : List (List ℤ)) (k : ℕ) (d : List ℤ) → list_all p xs ≡ true → k < length xs → p (get_or xs k d) ≡ true
all_at p [] k d all less = absurd (omega (arith, less))
all_at p (x ∷ xs) zero d all less = (both (p x) (list_all p xs) all).0
all_at p (x ∷ xs) (suc k) d all less = all_at p xs k d ((both (p x) (list_all p xs) all).1) (omega (arith, less))

-- lists of one length, one for each of some dimensions
pub record IsJoined (arrays : List (List ℤ)) (count : ℕ) : Type 0 where
  pub some : 0 < count
  pub same : length arrays ≡ count
  pub lengths : (k : ℕ) → k < length arrays → length (array_at arrays k) ≡ length (array_at arrays 0)

pub is_joined : (arrays : List (List ℤ)) (count : ℕ) → are_joined arrays count ≡ true → IsJoined arrays count
is_joined arrays count e =
    let p = both (not (count == 0) && (length arrays == count)) (list_all (λ entries. length entries == length (array_at arrays 0)) arrays) e in
    let q = both (not (count == 0)) (length arrays == count) p.0 in
    record {
      some = (let a = q.0 in grind (arith, nat_tests));
      same = (let a = q.1 in grind (arith, nat_tests));
      lengths = λ k h. (let a = all_at (λ entries. length entries == length (array_at arrays 0)) arrays k [] p.1 h in grind (arith, nat_tests));
    }

module _ (u : DomainAndMaps) (selected : List ℕ) (arrays : List (List ℤ)) (t : IsTransform u) (bounds : (i : ℕ) → i < length u.domain.dims → AreBounds (get_or u.domain.dims i point))
    (known : All (λ dim. dim < length u.domain.dims) selected) (joined : are_joined arrays (length selected) ≡ true) (good : first_cause (array_causes u arrays selected) ≡ None)
    (first_bounds : AreBounds (array_dim (array_at arrays 0))) where
  abbrev left : ℕ
  left = length (others selected (length u.domain.dims))

  abbrev pub put : ℕ → OutMap
  put = built_map (length (others selected (length u.domain.dims))) arrays

  abbrev first : Bounds
  first = array_dim (array_at arrays 0)

  abbrev news : List Bounds
  news = (first ∷ []) ++ stay u selected 1 put

  -- what is known of the list of a selected dimension
  fit_for : (dim spot : ℕ) → spot_in selected dim ≡ Some spot → IsListFor u dim (array_at arrays spot)
  fit_for dim spot e = arrays-fit u arrays selected good dim spot e

  same_dim : (dim spot : ℕ) → spot_in selected dim ≡ Some spot → first ≡ array_dim (array_at arrays spot)
  same_dim dim spot e =
      let j = is_joined arrays (length selected) joined in
      let p = spot_in-Some selected dim spot e in
      let a = p.inside in
      let b = j.same in
      let l = j.lengths spot (omega (arith, a, b)) in
      ap (λ (n : ℕ). let d : Bounds = record { lo = pos 0; hi = pos n -ℤ pos 1; lo_implicit = false; hi_implicit = false } in d) (sym l)

  count : length news ≡ 1 + left
  count = let s = stay_length u selected 1 put in omega (arith, s)

  -- a fact of the map that is composed, by whether its list is short
  by_length : (P : OutMap → Type 0) (spot : ℕ) → (nat_le (length (array_at arrays spot)) 4194304 ≡ true → P (array_map (1 + left) 0 (array_at arrays spot)))
      → (nat_le (length (array_at arrays spot)) 4194304 ≡ false → P (Constant (get_or (array_at arrays spot) 0 (pos 0)))) → P (put spot)
  by_length P spot short long = told (nat_le (length (array_at arrays spot)) 4194304) refl
    where
      told : (b : Bool) → nat_le (length (array_at arrays spot)) 4194304 ≡ b → P (cond b (array_map (1 + left) 0 (array_at arrays spot)) (Constant (get_or (array_at arrays spot) 0 (pos 0))))
      told true e = short e
      told false e = long e

  fit : (dim spot : ℕ) → dim < length u.domain.dims → spot_in selected dim ≡ Some spot → is_map news (put spot) ≡ true
  fit dim spot h e =
      by_length (λ m. is_map news m ≡ true) spot
      (λ few. let g = fit_for dim spot e in
      let f = fits-along news 0 (array_at arrays spot) (last-index (array_at arrays spot) few) (same_dim dim spot e) in
      let f2 : fits news (sizes_along (1 + left) 0 (length (array_at arrays spot))) ≡ true =
      subst (λ (n : ℕ). fits news (sizes_along n 0 (length (array_at arrays spot))) ≡ true) count f in
      let a = are_entries-along (1 + left) 0 (dim_at u.domain.dims dim) (array_at arrays spot) (omega arith) g.effective few in
      both_true (fits news (sizes_along (1 + left) 0 (length (array_at arrays spot)))) (are_entries (sizes_along (1 + left) 0 (length (array_at arrays spot))) (array_at arrays spot)) f2 a)
      (λ many. refl)

  inside : (dim spot : ℕ) → dim < length u.domain.dims → spot_in selected dim ≡ Some spot → is_inside_by news (get_or u.domain.dims dim point) (put spot) ≡ true
  inside dim spot h e =
      by_length (λ m. is_inside_by news (get_or u.domain.dims dim point) m ≡ true) spot
      (λ few. entries_inside-same (get_or u.domain.dims dim point) (array_at arrays spot) ((fit_for dim spot e).effective))
      (λ many. first-effective (is_effective (get_or u.domain.dims dim point)) (array_at arrays spot) ((fit_for dim spot e).effective) many)

  apart : (k spot : ℕ) → is_strided_from k (put spot) ≡ false
  apart k spot = by_length (λ m. is_strided_from k m ≡ false) spot (λ few. refl) (λ many. refl)

  not_first : (j : ℕ) → j < length (maps u selected 1 put) → is_strided_from 0 (get_or (maps u selected 1 put) j nowhere) ≡ false
  not_first j h =
      let l = maps_length u selected 1 put in
      ap (is_strided_from 0) (map_at u selected 1 put j nowhere (omega (arith, h, l))) ∙ told (spot_in selected j)
    where
      told : (o : Option ℕ) → is_strided_from 0 (left_by (others selected (length u.domain.dims)) 1 put j o) ≡ false
      told (Some spot) = apart 0 spot
      told None = grind (arith, nat_tests)

  tight : (i : ℕ) → i < 1 → IsTightened i (get_or (first ∷ []) i point) (get_or (first ∷ []) i point) u.domain.dims (maps u selected 1 put)
  tight zero h = IsTightened-same 0 first u.domain.dims (maps u selected 1 put)
      (IsTight-none 0 first u.domain.dims (maps u selected 1 put) first_bounds
      (preimages-none preimage_lower 0 u.domain.dims (maps u selected 1 put) not_first) (preimages-none preimage_upper 0 u.domain.dims (maps u selected 1 put) not_first))
  tight (suc i) h = absurd (omega (arith, h))

  goes : GoIn u selected 1 put (first ∷ []) (first ∷ [])
  goes = record {
    firsts_count = refl;
    news_count = refl;
    few = one_fewer u selected t known ((is_joined arrays (length selected) joined).some);
    fit = fit;
    plain = λ spot. by_length (λ m. is_plain m ≡ true) spot (λ few. refl) (λ many. refl);
    apart = λ spot p. apart (1 + p) spot;
    inside = inside;
    tight = tight;
  }

  abbrev view : DomainAndMaps
  view = vindex_view u selected arrays

  pub IsTransform-vindex : KeepsRules (with_maps (vindex_view u selected arrays) (maps u selected 1 put))
  IsTransform-vindex = is_transform u selected 1 put (first ∷ []) (first ∷ []) t bounds goes

  pub tight-vindex : tighten_answer (with_maps (vindex_view u selected arrays) (maps u selected 1 put)) u.domain ≡ Ok (with_maps (vindex_view u selected arrays) (maps u selected 1 put))
  tight-vindex = tighten_answer-Ok (with_maps (vindex_view u selected arrays) (maps u selected 1 put)) u.domain ((vindex_view u selected arrays).domain.dims) (becomes u selected 1 put (first ∷ []) (first ∷ []) t bounds goes)

  -- What is composed is the view where an output needs it.

  abbrev olds : ℕ → OutMap
  olds = vindex_map (length (others selected (length u.domain.dims))) arrays

  below : (j : ℕ) → j < length view.maps → j < length u.domain.dims
  below j h = let l = maps_length u selected 1 olds in omega (arith, h, l)

  pub lengths-vindex : length view.maps ≡ length (maps u selected 1 put)
  lengths-vindex = maps_length u selected 1 olds ∙ sym (maps_length u selected 1 put)

  pub same-vindex : AreSameForAll view.maps (maps u selected 1 put) u.maps
  same-vindex j h = told (spot_in selected j) refl (map_at u selected 1 olds j nowhere (below j h)) (map_at u selected 1 put j nowhere (below j h))
    where
      needed : (spot : ℕ) → get_or view.maps j nowhere ≡ olds spot → get_or (maps u selected 1 put) j nowhere ≡ put spot
          → (nat_le (length (array_at arrays spot)) 4194304 ≡ true) ⊎ (list_any (depends_on j) u.maps ≡ false)
          → (get_or view.maps j nowhere ≡ get_or (maps u selected 1 put) j nowhere) ⊎ (list_any (depends_on j) u.maps ≡ false)
      needed spot v w (inl few) = let short : put spot ≡ olds spot = rw few refl in inl (v ∙ sym (w ∙ short))
      needed spot v w (inr un) = inr un

      told : (o : Option ℕ) → spot_in selected j ≡ o → get_or view.maps j nowhere ≡ left_map selected (others selected (length u.domain.dims)) 1 olds j
          → get_or (maps u selected 1 put) j nowhere ≡ left_map selected (others selected (length u.domain.dims)) 1 put j
          → (get_or view.maps j nowhere ≡ get_or (maps u selected 1 put) j nowhere) ⊎ (list_any (depends_on j) u.maps ≡ false)
      told None e v w =
          inl (v ∙ ap (left_by (others selected (length u.domain.dims)) 1 olds j) e ∙ sym (w ∙ ap (left_by (others selected (length u.domain.dims)) 1 put j) e))
      told (Some spot) e v w =
          needed spot (v ∙ ap (left_by (others selected (length u.domain.dims)) 1 olds j) e) (w ∙ ap (left_by (others selected (length u.domain.dims)) 1 put j) e) ((fit_for j spot e).needed)

  pub count-vindex : length view.maps ≡ length u.domain.dims
  count-vindex = maps_length u selected 1 olds

  pub numbers-vindex : (made : DomainAndMaps) → over u (with_maps view (maps u selected 1 put)) ≡ Ok made → (cell : List ℤ) → IsCell made.domain.dims cell → (j : ℕ) → j < length view.maps
      → (get_or view.maps j nowhere ≡ get_or (maps u selected 1 put) j nowhere) ⊎ (is_effective (get_or u.domain.dims j point) (map_value view.domain.dims cell (get_or view.maps j nowhere)) ≡ true)
  numbers-vindex made e cell c j h = told (spot_in selected j) refl (map_at u selected 1 olds j nowhere (below j h)) (map_at u selected 1 put j nowhere (below j h))
    where
      told : (o : Option ℕ) → spot_in selected j ≡ o → get_or view.maps j nowhere ≡ left_map selected (others selected (length u.domain.dims)) 1 olds j
          → get_or (maps u selected 1 put) j nowhere ≡ left_map selected (others selected (length u.domain.dims)) 1 put j
          → (get_or view.maps j nowhere ≡ get_or (maps u selected 1 put) j nowhere) ⊎ (is_effective (get_or u.domain.dims j point) (map_value view.domain.dims cell (get_or view.maps j nowhere)) ≡ true)
      told None q v w =
          inl (v ∙ ap (left_by (others selected (length u.domain.dims)) 1 olds j) q ∙ sym (w ∙ ap (left_by (others selected (length u.domain.dims)) 1 put j) q))
      told (Some spot) q v w =
          let d = cell-view u (with_maps view (maps u selected 1 put)) made cell e c in
          inr (ap (λ (m : OutMap). is_effective (get_or u.domain.dims j point) (map_value view.domain.dims cell m)) (v ∙ ap (left_by (others selected (length u.domain.dims)) 1 olds j) q)
          ∙ entry-effective view.domain.dims (1 + left) 0 (get_or u.domain.dims j point) (array_at arrays spot) cell count (omega arith) (same_dim j spot q) d ((fit_for j spot q).effective))

-- the first of dimensions that keep the rule
pub first-bounds : (b : Bounds) (ds xs : List Bounds) → list_all are_bounds ds ≡ true → ds ≡ b ∷ xs → AreBounds b
first-bounds b ds xs e q = AreBounds-true b ((both (are_bounds b) (list_all are_bounds xs) (subst (λ (zs : List Bounds). list_all are_bounds zs ≡ true) q e)).0)
