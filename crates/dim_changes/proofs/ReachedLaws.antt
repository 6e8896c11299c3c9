-- Wherever a cell goes to a finite index, the outer effective interval has it: intervals by their ends, maps, compositions.
use Rattle.std.proofs.Common.{◌≡◌, ◌∙◌, zero, suc, ℕ, ◌+◌, ◌<◌, ◌==◌, Bool, true, false, cond, not, ◌&&◌, ◌||◌, List, [], ◌∷◌, length, map, get_or, refl, sym, ap, subst, arith, ℤ, pos, negsuc, ◌+ℤ◌, ◌*ℤ◌, ◌≤ℤ◌, int_le, Option, Some, None, Result, Ok, Err}
use Rattle.std.proofs.lemmas.Int.{ints}
use Rattle.std.proofs.lemmas.Bool.Decides.{nat_tests}
use Rattle.std.specs.List.{list_all, list_any, zip, position_from}
use Rattle.std.specs.Int.RustNames.{int_lt}
use Rattle.index_intervals.specs.Bounds.{Bounds, AreBounds, is_index, are_bounds, is_ordered, minus_infinity, plus_infinity}
use Rattle.index_intervals.specs.Members.{effective_lo, effective_hi, is_finite}
use Rattle.index_intervals.proofs.Laws.{is_index-true, lo_infinite, hi_infinite, not_negative}
use Rattle.transform_composition.specs.declared.OutMap.{OutMap}
use Rattle.transform_composition.specs.declared.OutMap.TheVariants.{Constant, Strided, Indexed}
use Rattle.transform_composition.specs.Maps.{size_of, is_fixed, fits_dim, fits, are_entries, is_map}
use Rattle.transform_composition.specs.Transforms.{DomainAndMaps, IsTransform, on_dims}
use Rattle.transform_composition.specs.Values.{is_effective, map_value}
use Rattle.transform_composition.specs.Walks.{IsCell}
use Rattle.transform_composition.proofs.Laws.{get_or-inside, between_up, between_down}
use Rattle.transform_composition.specs.Inside.{goes_down, end_inside, are_ends_inside, is_inside_by}
use Rattle.transform_composition.specs.Reading.{point}
use Rattle.transform_composition.specs.Inside.{first_outside_by}
use Rattle.transform_composition.specs.Reading.{has_array_along}
use Rattle.transform_composition.specs.Tightening.{tightened, tight_dims, on_result}
use Rattle.transform_composition.specs.Composing.{nowhere, composed, over_tightened, joined, joined_answer, composed_map, passes_word, is_too_large, unless_passed, unless_large, closed, closed_along, closed_dims}
use Rattle.transform_composition.specs.declared.error.ComposeError.{ComposeError}
use Rattle.transform_composition.proofs.Laws.{IsTightened-of}
use Rattle.transform_composition.proofs.Laws.{value-inside, all-inside}
use Rattle.transform_composition.proofs.Laws.{maps-tight}
use Rattle.transform_composition.proofs.Laws.{values-tight}
use Rattle.dim_changes.specs.Causes.{ReachesInto}
use Rattle.dim_changes.proofs.RangeLaws.{AreBounds-each}
use Rattle.dim_changes.proofs.StepLemmas.{between, length-IsCell}
use Rattle.cells.proofs.Laws.{both, both_true, not_true}

-- a number above that of an end that goes down passes no lower bound
low-end : (b : Bounds) (o s e y : ℤ) → AreBounds b → is_index y ≡ true → end_inside b o s e ≡ true → (is_index e ≡ false → goes_down s e ≡ true) → (o +ℤ s *ℤ e) ≤ℤ y
    → (b.lo_implicit || int_le b.lo y) ≡ true
low-end b o s e y p i h d l = told (is_index e) refl h
  where
    v : ℤ
    v = o +ℤ s *ℤ e

    below : (t : Bool) → (t || int_le b.lo v) ≡ true → (t || int_le b.lo y) ≡ true
    below true g = refl
    below false g = grind (arith, ints, g, l)

    far : (t : Bool) → not (is_index (cond t minus_infinity b.lo)) ≡ true → (t || int_le b.lo y) ≡ true
    far true g = refl
    far false g =
        let f = not_true (is_index b.lo) g in
        let at : b.lo ≡ minus_infinity = lo_infinite b p f in
        let k = is_index-true y i in
        let m : b.lo ≤ℤ y = rw at (omega (arith, ints, k.above)) in
        grind (arith, ints, m)

    told : (t : Bool) → is_index e ≡ t → cond t (is_effective b v) (cond (goes_down s e) (not (is_index (effective_lo b))) (not (is_index (effective_hi b)))) ≡ true
        → (b.lo_implicit || int_le b.lo y) ≡ true
    told true q g =
        let r = both (is_index v && (b.lo_implicit || int_le b.lo v)) (b.hi_implicit || int_le v b.hi) g in
        below b.lo_implicit ((both (is_index v) (b.lo_implicit || int_le b.lo v) r.0).1)
    told false q g = far b.lo_implicit (let w = d q in (rw w at g))

-- and one below that of an end that goes up no upper bound
high-end : (b : Bounds) (o s e y : ℤ) → AreBounds b → is_index y ≡ true → end_inside b o s e ≡ true → (is_index e ≡ false → goes_down s e ≡ false) → y ≤ℤ (o +ℤ s *ℤ e)
    → (b.hi_implicit || int_le y b.hi) ≡ true
high-end b o s e y p i h d l = told (is_index e) refl h
  where
    v : ℤ
    v = o +ℤ s *ℤ e

    above : (t : Bool) → (t || int_le v b.hi) ≡ true → (t || int_le y b.hi) ≡ true
    above true g = refl
    above false g = grind (arith, ints, g, l)

    far : (t : Bool) → not (is_index (cond t plus_infinity b.hi)) ≡ true → (t || int_le y b.hi) ≡ true
    far true g = refl
    far false g =
        let f = not_true (is_index b.hi) g in
        let at : b.hi ≡ plus_infinity = hi_infinite b p f in
        let k = is_index-true y i in
        let m : y ≤ℤ b.hi = rw at (omega (arith, ints, k.below)) in
        grind (arith, ints, m)

    told : (t : Bool) → is_index e ≡ t → cond t (is_effective b v) (cond (goes_down s e) (not (is_index (effective_lo b))) (not (is_index (effective_hi b)))) ≡ true
        → (b.hi_implicit || int_le y b.hi) ≡ true
    told true q g =
        let r = both (is_index v && (b.lo_implicit || int_le b.lo v)) (b.hi_implicit || int_le v b.hi) g in
        above b.hi_implicit r.1
    told false q g = far b.hi_implicit (let w = d q in (rw w at g))

-- a number between the bounds of an interval whose ends lie inside goes to an effective member, or to no finite index
pub strided-reached : (d b : Bounds) (o s x : ℤ) → AreBounds d → AreBounds b → d.lo ≤ℤ x → x ≤ℤ d.hi → are_ends_inside d b o s ≡ true
    → is_index (o +ℤ s *ℤ x) ≡ true → is_effective b (o +ℤ s *ℤ x) ≡ true
strided-reached d b o s x q p l m e i =
    let c : int_lt d.hi d.lo ≡ false = grind (arith, ints, l, m) in
    let g = both (end_inside b o s d.lo) (end_inside b o s d.hi) (rw c at e) in
    let r = sides s i g.0 g.1 in
    both_true (is_index y && (b.lo_implicit || int_le b.lo y)) (b.hi_implicit || int_le y b.hi)
    (both_true (is_index y) (b.lo_implicit || int_le b.lo y) i r.0) r.1
  where
    y : ℤ
    y = o +ℤ s *ℤ x

    sides : (t : ℤ) → is_index (o +ℤ t *ℤ x) ≡ true → end_inside b o t d.lo ≡ true → end_inside b o t d.hi ≡ true
        → ((b.lo_implicit || int_le b.lo (o +ℤ t *ℤ x)) ≡ true) × ((b.hi_implicit || int_le (o +ℤ t *ℤ x) b.hi) ≡ true)
    sides (pos n) j g h =
        let w = between_up o (pos n) d.lo x d.hi (omega (arith, ints)) l m in
        let f = not_negative n in (
          low-end b o (pos n) d.lo (o +ℤ pos n *ℤ x) p j g (λ u. let v = lo_infinite d q u in rw (f, v) refl) w.0,
          high-end b o (pos n) d.hi (o +ℤ pos n *ℤ x) p j h (λ u. let v = hi_infinite d q u in rw (f, v) refl) w.1,
        )
    sides (negsuc n) j g h =
        let w = between_down o n d.lo x d.hi l m in (
          low-end b o (negsuc n) d.hi (o +ℤ negsuc n *ℤ x) p j h (λ u. let v = hi_infinite d q u in rw v refl) w.0,
          high-end b o (negsuc n) d.lo (o +ℤ negsuc n *ℤ x) p j g (λ u. let v = lo_infinite d q u in rw v refl) w.1,
        )

-- a dimension on which an index array depends is finite
fixed-finite : (ds : List Bounds) (ns : List ℕ) (i : ℕ) → length ds ≡ length ns → list_all (λ p. fits_dim p.0 p.1) (zip ds ns) ≡ true
    → i < length ds → not (get_or ns i 1 == 1) ≡ true → is_finite (get_or ds i point) ≡ true
fixed-finite [] ns i l f h e = absurd (omega (arith, h))
fixed-finite (d ∷ ds) [] i l f h e = absurd (omega (arith, l))
fixed-finite (d ∷ ds) (n ∷ ns) zero l f h e =
    told (n == 1) e ((both (fits_dim d n) (list_all (λ p. fits_dim p.0 p.1) (zip ds ns)) f).0)
  where
    told : (b : Bool) → not b ≡ true → (b || (is_fixed d && n == size_of d)) ≡ true → is_finite d ≡ true
    told true g k = cc
    told false g k =
        let p = both (is_fixed d) (n == size_of d) k in
        let q = both (not d.lo_implicit && not d.hi_implicit && is_index d.lo) (is_index d.hi) p.0 in
        let r = both (not d.lo_implicit && not d.hi_implicit) (is_index d.lo) q.0 in
        both_true (is_index d.lo) (is_index d.hi) r.1 q.1
fixed-finite (d ∷ ds) (n ∷ ns) (suc i) l f h e =
    fixed-finite ds ns i (omega (arith, l)) ((both (fits_dim d n) (list_all (λ p. fits_dim p.0 p.1) (zip ds ns)) f).1) (omega (arith, h)) e

-- the number of a map that lies inside is an effective member, or no finite index
pub value-reached : (ds : List Bounds) (xs : List ℤ) (b : Bounds) (m : OutMap) → AreBounds b → list_all are_bounds ds ≡ true → IsCell ds xs → is_map ds m ≡ true
    → is_inside_by ds b m ≡ true → is_index (map_value ds xs m) ≡ true → is_effective b (map_value ds xs m) ≡ true
value-reached ds xs b (Constant o) p q c f g i = g
value-reached ds xs b (Strided o s dim) p q c f g i =
    let h : dim < length ds = grind (arith, nat_tests, f) in
    let same : get_or ds dim b ≡ get_or ds dim point = get_or-inside ds dim b point h in
    let w = between ds xs dim c h in
    strided-reached (get_or ds dim point) b o s (get_or xs dim (pos 0)) (AreBounds-each ds q dim h) p w.0 w.1 (rw same at g) i
value-reached ds xs b (Indexed o s ns entries) p q c f g i =
    value-inside ds xs b (Indexed o s ns entries) (length-IsCell ds xs c) f g (λ k h r.
    let u = both (fits ds ns) (are_entries ns entries) f in
    let v = both (length ds == length ns) (list_all (λ p. fits_dim p.0 p.1) (zip ds ns)) u.0 in
    let w = between ds xs k c h in
    record { finite = fixed-finite ds ns k (let e = v.0 in grind (arith, nat_tests, e)) v.1 h r; above = w.0; below = w.1 })

-- The cells of a composition.

pub cell-closed : (k : ℕ) (ds : List Bounds) (ms : List OutMap) (xs : List ℤ) → IsCell (closed_dims k ds ms) xs → IsCell ds xs
cell-closed k [] ms xs c = c
cell-closed k (d ∷ ds) ms [] c = c
cell-closed k (d ∷ ds) ms (x ∷ xs) c =
    let p = told (list_any (has_array_along k) ms) c.0 c.1 in
    (p.0, p.1, cell-closed (k + 1) ds ms xs c.2)
  where
    told : (b : Bool) → ((cond b (closed d) d).lo ≤ℤ x) → (x ≤ℤ (cond b (closed d) d).hi) → (d.lo ≤ℤ x) × (x ≤ℤ d.hi)
    told true l h = (l, h)
    told false l h = (l, h)

bounds-closed : (k : ℕ) (ds : List Bounds) (ms : List OutMap) → list_all are_bounds (closed_dims k ds ms) ≡ true → list_all are_bounds ds ≡ true
bounds-closed k [] ms e = refl
bounds-closed k (d ∷ ds) ms e =
    let p = both (are_bounds (closed_along k ms d)) (list_all are_bounds (closed_dims (k + 1) ds ms)) e in
    both_true (are_bounds d) (list_all are_bounds ds) (told (list_any (has_array_along k) ms) p.0) (bounds-closed (k + 1) ds ms p.1)
  where
    told : (b : Bool) → are_bounds (cond b (closed d) d) ≡ true → are_bounds d ≡ true
    told true f = f
    told false f = f

ordered-all : (ds : List Bounds) → list_all are_bounds ds ≡ true → list_all is_ordered ds ≡ true
ordered-all [] e = refl
ordered-all (d ∷ ds) e =
    let p = both (are_bounds d) (list_all are_bounds ds) e in
    both_true (is_ordered d) (list_all is_ordered ds) (one p.0) (ordered-all ds p.1)
  where
    one : are_bounds d ≡ true → is_ordered d ≡ true
    one f = grind (arith, ints, f)

-- the number of an output
pub value-at : (ds : List Bounds) (xs : List ℤ) (ms : List OutMap) (k : ℕ) → k < length ms → get_or (map (map_value ds xs) ms) k (pos 0) ≡ map_value ds xs (get_or ms k nowhere)
value-at ds xs [] k h = absurd (omega (arith, h))
value-at ds xs (m ∷ ms) zero h = refl
value-at ds xs (m ∷ ms) (suc k) h = value-at ds xs ms k (omega (arith, h))

map-at : (ds : List Bounds) (ms : List OutMap) (k : ℕ) → k < length ms → list_all (is_map ds) ms ≡ true → is_map ds (get_or ms k nowhere) ≡ true
map-at ds [] k h e = absurd (omega (arith, h))
map-at ds (m ∷ ms) zero h e = (both (is_map ds m) (list_all (is_map ds) ms) e).0
map-at ds (m ∷ ms) (suc k) h e = map-at ds ms k (omega (arith, h)) ((both (is_map ds m) (list_all (is_map ds) ms) e).1)

inside-at : (ds os : List Bounds) (ms : List OutMap) (k : ℕ) → k < length ms → k < length os → list_all (λ p. is_inside_by ds p.0 p.1) (zip os ms) ≡ true
    → is_inside_by ds (get_or os k point) (get_or ms k nowhere) ≡ true
inside-at ds os [] k h i e = absurd (omega (arith, h))
inside-at ds [] (m ∷ ms) k h i e = absurd (omega (arith, i))
inside-at ds (o ∷ os) (m ∷ ms) zero h i e = (both (is_inside_by ds o m) (list_all (λ p. is_inside_by ds p.0 p.1) (zip os ms)) e).0
inside-at ds (o ∷ os) (m ∷ ms) (suc k) h i e =
    inside-at ds os ms k (omega (arith, h)) (omega (arith, i)) ((both (is_inside_by ds o m) (list_all (λ p. is_inside_by ds p.0 p.1) (zip os ms)) e).1)

-- the cells of tightened dimensions reach the outer ones
reached-tight : (is os : List Bounds) (gs : List OutMap) (cell : List ℤ) (k : ℕ) → list_all is_ordered is ≡ true → list_all (is_map is) gs ≡ true → length gs ≡ length os
    → list_all are_bounds os ≡ true → list_all are_bounds (tight_dims 0 is os gs) ≡ true → first_outside_by (tight_dims 0 is os gs) os gs ≡ None
    → IsCell (tight_dims 0 is os gs) cell → k < length os
    → is_index (get_or (map (map_value is cell) gs) k (pos 0)) ≡ true → is_effective (get_or os k point) (get_or (map (map_value is cell) gs) k (pos 0)) ≡ true
reached-tight is os gs cell k o m l p b e c h i =
    let ts : List Bounds = tight_dims 0 is os gs in
    let g : k < length gs = omega (arith, h, l) in
    let at : get_or (map (map_value is cell) gs) k (pos 0) ≡ map_value ts cell (get_or gs k nowhere) =
    ap (λ (ys : List ℤ). get_or ys k (pos 0)) (sym (values-tight is os gs cell gs o m)) ∙ value-at ts cell gs k g in
    subst (λ (y : ℤ). is_effective (get_or os k point) y ≡ true) (sym at)
    (value-reached ts cell (get_or os k point) (get_or gs k nowhere) (AreBounds-each os p k h) b c (map-at ts gs k g (maps-tight is os gs gs o m))
    (inside-at ts os gs k g h (all-inside ts os gs e)) (subst (λ (y : ℤ). is_index y ≡ true) at i))

-- the cells of a composition reach the outer domain
pub ReachesInto-composed : (outer inner t : DomainAndMaps) → IsTransform outer → IsTransform inner → IsTransform t → composed outer inner ≡ Ok t
    → ReachesInto t.domain.dims inner outer.domain.dims
ReachesInto-composed outer inner t p q r e = told (tightened inner.domain.dims outer.domain.dims inner.maps) refl e
  where
    joined-of : (w : DomainAndMaps) → joined_answer outer w ≡ Ok t → t ≡ joined outer w
    joined-of w f = split (position_from (passes_word w.maps) 0 outer.maps) (position_from (is_too_large w.domain.dims w.maps) 0 outer.maps) f
      where
        split : (a b : Option ℕ) → unless_passed a (unless_large b (joined outer w)) ≡ Ok t → t ≡ joined outer w
        split (Some k) b g = cc
        split None (Some k) g = cc
        split None None g = cc

    told : (a : Result (List Bounds) ComposeError) → tightened inner.domain.dims outer.domain.dims inner.maps ≡ a → over_tightened outer (on_result inner a) ≡ Ok t
        → ReachesInto t.domain.dims inner outer.domain.dims
    told (Err x) f g = cc
    told (Ok ds) f g = λ cell c k h i.
        let s = IsTightened-of inner.domain.dims outer.domain.dims inner.maps ds f in
        let ts : List Bounds = tight_dims 0 inner.domain.dims outer.domain.dims inner.maps in
        let ms : List OutMap = map (composed_map outer.domain.dims ds inner.maps) outer.maps in
        let at : t.domain.dims ≡ closed_dims 0 ds ms = ap (λ (x : DomainAndMaps). x.domain.dims) (joined-of (on_dims inner ds) g) in
        let b = bounds-closed 0 ds ms (subst (λ (x : List Bounds). list_all are_bounds x ≡ true) at r.bounds) in
        let d = cell-closed 0 ds ms cell (subst (λ (x : List Bounds). IsCell x cell) at c) in
        reached-tight inner.domain.dims outer.domain.dims inner.maps cell k (ordered-all inner.domain.dims q.bounds) q.maps s.rank p.bounds
        (subst (λ (x : List Bounds). list_all are_bounds x ≡ true) s.dims b) s.inside (subst (λ (x : List Bounds). IsCell x cell) s.dims d) h i
