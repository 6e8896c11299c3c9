-- What a composition and a tightened transform have of their parts.
use Rattle.std.proofs.Common.{◌≡◌, ◌∙◌, zero, suc, ℕ, ◌+◌, ◌<◌, ◌==◌, Bool, true, false, cond, not, List, [], ◌∷◌, length, map, get_or, refl, sym, ap, subst, arith, ℤ, pos, ◌≤ℤ◌, Option, Some, None, Result, Ok, Err}
use Rattle.std.proofs.lemmas.Bool.Decides.{nat_tests}
use Rattle.std.specs.List.{list_all, list_any, zip, position_from}
use Rattle.index_transform.specs.Bounds.{Bounds}
use Rattle.index_transform.specs.declared.map.OutMap.{OutMap}
use Rattle.transform_composition.specs.declared.error.ComposeError.{ComposeError}
use Rattle.transform_composition.specs.declared.error.ComposeError.TheVariants.{Rank}
use Rattle.index_transform.specs.Maps.{is_map}
use Rattle.index_transform.specs.Cells.{is_finite}
use Rattle.index_transform.specs.Walks.{IsCell}
use Rattle.index_transform.specs.Transforms.{DomainAndMaps, IsTransform}
use Rattle.index_transform.specs.Values.{is_effective, map_value, value_at, first_outside}
use Rattle.transform_composition.specs.Reading.{has_array_along, point}
use Rattle.transform_composition.specs.Tightening.{tightened, tight_dims, first_overflow_by, unless_overflow_by, unless_outside_by, on_dims, is_ordered}
use Rattle.transform_composition.specs.Inside.{first_outside_by, is_inside_by}
use Rattle.transform_composition.specs.Composing.{composed_map, closed, closed_along, closed_dims, joined}
use Rattle.transform_composition.specs.Agreeing.{Agrees, GoesInto}
use Rattle.transform_composition.proofs.FiniteLemmas.{IsIn, value-inside, all-inside}
use Rattle.transform_composition.proofs.FitLemmas.{maps-tight}
use Rattle.transform_composition.proofs.JoinLemmas.{length-closed_dims, closed_dims-at}
use Rattle.transform_composition.proofs.ValueLemmas.{values-closed, values-tight, values-composed}
use Rattle.index_transform.proofs.Laws.{both, both_true}

-- what it says that tightening answers
pub record IsTightened (is os : List Bounds) (gs : List OutMap) (ds : List Bounds) : Type 0 where
  pub rank : length gs ≡ length os
  pub dims : ds ≡ tight_dims 0 is os gs
  pub inside : first_outside_by (tight_dims 0 is os gs) os gs ≡ None

pub IsTightened-of : (is os : List Bounds) (gs : List OutMap) (ds : List Bounds) → tightened is os gs ≡ Ok ds → IsTightened is os gs ds
IsTightened-of is os gs ds e = told (length gs == length os) (first_overflow_by is os gs) (first_outside_by (tight_dims 0 is os gs) os gs) refl refl e
  where
    told : (b : Bool) (f g : Option ℕ) → (length gs == length os) ≡ b → first_outside_by (tight_dims 0 is os gs) os gs ≡ g
        → (let r : Result (List Bounds) ComposeError = cond (not b) (Err Rank) (unless_overflow_by f (unless_outside_by g (tight_dims 0 is os gs))) in r) ≡ Ok ds
        → IsTightened is os gs ds
    told false f g u v e = cc
    told true (Some k) g u v e = cc
    told true None (Some k) u v e = cc
    told true None None u v e = record { rank = grind (arith, nat_tests, u); dims = cc; inside = v }

-- bounds made explicit stay where they are
pub lo-closed : (ds : List Bounds) (ms : List OutMap) (i : ℕ) → i < length ds → (get_or (closed_dims 0 ds ms) i point).lo ≡ (get_or ds i point).lo
lo-closed ds ms i h = ap (λ (b : Bounds). b.lo) (closed_dims-at 0 ds ms i point h) ∙ told (list_any (has_array_along (0 + i)) ms)
  where
    told : (b : Bool) → (cond b (closed (get_or ds i point)) (get_or ds i point)).lo ≡ (get_or ds i point).lo
    told true = refl
    told false = refl

pub hi-closed : (ds : List Bounds) (ms : List OutMap) (i : ℕ) → i < length ds → (get_or (closed_dims 0 ds ms) i point).hi ≡ (get_or ds i point).hi
hi-closed ds ms i h = ap (λ (b : Bounds). b.hi) (closed_dims-at 0 ds ms i point h) ∙ told (list_any (has_array_along (0 + i)) ms)
  where
    told : (b : Bool) → (cond b (closed (get_or ds i point)) (get_or ds i point)).hi ≡ (get_or ds i point).hi
    told true = refl
    told false = refl

-- a composition has the outer value at the inner value
Agrees-joined : (outer inner : DomainAndMaps) → IsTransform outer → IsTransform inner → list_all is_ordered inner.domain.dims ≡ true
    → length inner.maps ≡ length outer.domain.dims
    → Agrees (joined outer (on_dims inner (tight_dims 0 inner.domain.dims outer.domain.dims inner.maps))) outer inner
Agrees-joined outer inner t u o rank = λ index l c.
    let ds : List Bounds = tight_dims 0 inner.domain.dims outer.domain.dims inner.maps in
    let ms : List OutMap = map (composed_map outer.domain.dims ds inner.maps) outer.maps in
    let n : length index ≡ length ds = l ∙ length-closed_dims 0 ds ms in
    values-closed ds ms index ms
    ∙ values-composed outer.domain.dims ds inner.maps index outer.maps rank t.maps n
    (λ k b r.
    let p = c k (subst (λ (z : ℕ). k < z) (sym (length-closed_dims 0 ds ms)) b) r in
    (subst (λ (z : ℤ). z ≤ℤ get_or index k (pos 0)) (lo-closed ds ms k b) p.0, subst (λ (z : ℤ). get_or index k (pos 0) ≤ℤ z) (hi-closed ds ms k b) p.1))
    ∙ ap (λ (ys : List ℤ). map (map_value outer.domain.dims ys) outer.maps) (values-tight inner.domain.dims outer.domain.dims inner.maps index inner.maps o u.maps)

pub Agrees-composed : (outer inner t : DomainAndMaps) (ds : List Bounds) → IsTransform outer → IsTransform inner → list_all is_ordered inner.domain.dims ≡ true
    → tightened inner.domain.dims outer.domain.dims inner.maps ≡ Ok ds → t ≡ joined outer (on_dims inner ds) → Agrees t outer inner
Agrees-composed outer inner t ds p q o e f =
    let i = IsTightened-of inner.domain.dims outer.domain.dims inner.maps ds e in
    subst (λ (z : DomainAndMaps). Agrees z outer inner) (sym (f ∙ ap (λ (x : List Bounds). joined outer (on_dims inner x)) i.dims))
    (Agrees-joined outer inner p q o i.rank)

-- a cell lies in each dimension
cell-in : (ds : List Bounds) (xs : List ℤ) (i : ℕ) → list_all is_finite ds ≡ true → IsCell ds xs → i < length ds → IsIn (get_or ds i point) (get_or xs i (pos 0))
cell-in [] xs i f c h = absurd (omega (arith, h))
cell-in (d ∷ ds) [] i f c h = absurd c
cell-in (d ∷ ds) (x ∷ xs) zero f c h = record { finite = (both (is_finite d) (list_all is_finite ds) f).0; above = c.0; below = c.1 }
cell-in (d ∷ ds) (x ∷ xs) (suc i) f c h = cell-in ds xs i ((both (is_finite d) (list_all is_finite ds) f).1) c.2 (omega (arith, h))

cell-length : (ds : List Bounds) (xs : List ℤ) → IsCell ds xs → length xs ≡ length ds
cell-length [] [] c = refl
cell-length [] (x ∷ xs) c = absurd c
cell-length (d ∷ ds) [] c = absurd c
cell-length (d ∷ ds) (x ∷ xs) c = ap suc (cell-length ds xs c.2)

none_outside : {X : Type 0} (p : X → Bool) (i : ℕ) (xs : List X) → list_all p xs ≡ true → position_from (λ x. not (p x)) i xs ≡ None
none_outside p i [] e = refl
none_outside p i (x ∷ xs) e =
    let q = both (p x) (list_all p xs) e in
    rw q.0 (none_outside p (i + 1) xs q.1)

effective-values : (ds : List Bounds) (xs : List ℤ) (os : List Bounds) (gs : List OutMap) → length xs ≡ length ds
    → ((i : ℕ) → i < length ds → IsIn (get_or ds i point) (get_or xs i (pos 0))) → list_all (is_map ds) gs ≡ true
    → list_all (λ p. is_inside_by ds p.0 p.1) (zip os gs) ≡ true → list_all (λ p. is_effective p.0 p.1) (zip os (map (map_value ds xs) gs)) ≡ true
effective-values ds xs [] gs l h e f = refl
effective-values ds xs (o ∷ os) [] l h e f = refl
effective-values ds xs (o ∷ os) (g ∷ gs) l h e f =
    let p = both (is_map ds g) (list_all (is_map ds) gs) e in
    let q = both (is_inside_by ds o g) (list_all (λ p. is_inside_by ds p.0 p.1) (zip os gs)) f in
    both_true (is_effective o (map_value ds xs g)) (list_all (λ p. is_effective p.0 p.1) (zip os (map (map_value ds xs) gs)))
    (value-inside ds xs o g l p.0 q.0 (λ i b r. h i b)) (effective-values ds xs os gs l h p.1 q.1)

-- the cells of tightened dimensions go into the outer ones
pub GoesInto-tight : (is os : List Bounds) (gs : List OutMap) → list_all is_ordered is ≡ true → list_all (is_map is) gs ≡ true
    → first_outside_by (tight_dims 0 is os gs) os gs ≡ None → list_all is_finite (tight_dims 0 is os gs) ≡ true
    → (cell : List ℤ) → IsCell (tight_dims 0 is os gs) cell → first_outside os (map (map_value is cell) gs) ≡ None
GoesInto-tight is os gs o m e f cell c =
    let ds : List Bounds = tight_dims 0 is os gs in
    let v = effective-values ds cell os gs (cell-length ds cell c) (λ i b. cell-in ds cell i f c b) (maps-tight is os gs gs o m) (all-inside ds os gs e) in
    let w = ap (λ (ys : List ℤ). first_outside os ys) (values-tight is os gs cell gs o m) in
    sym w ∙ none_outside (λ p. is_effective p.0 p.1) 0 (zip os (map (map_value ds cell) gs)) v

-- cells and finite bounds are the same of dimensions made explicit
cell-closed : (k : ℕ) (ds : List Bounds) (ms : List OutMap) (xs : List ℤ) → IsCell (closed_dims k ds ms) xs → IsCell ds xs
cell-closed k [] ms xs c = c
cell-closed k (d ∷ ds) ms [] c = c
cell-closed k (d ∷ ds) ms (x ∷ xs) c =
    let p = told (list_any (has_array_along k) ms) c.0 c.1 in
    (p.0, p.1, cell-closed (k + 1) ds ms xs c.2)
  where
    told : (b : Bool) → ((cond b (closed d) d).lo ≤ℤ x) → (x ≤ℤ (cond b (closed d) d).hi) → (d.lo ≤ℤ x) × (x ≤ℤ d.hi)
    told true l h = (l, h)
    told false l h = (l, h)

finite-closed : (k : ℕ) (ds : List Bounds) (ms : List OutMap) → list_all is_finite (closed_dims k ds ms) ≡ true → list_all is_finite ds ≡ true
finite-closed k [] ms e = refl
finite-closed k (d ∷ ds) ms e =
    let p = both (is_finite (closed_along k ms d)) (list_all is_finite (closed_dims (k + 1) ds ms)) e in
    both_true (is_finite d) (list_all is_finite ds) (told (list_any (has_array_along k) ms) p.0) (finite-closed (k + 1) ds ms p.1)
  where
    told : (b : Bool) → is_finite (cond b (closed d) d) ≡ true → is_finite d ≡ true
    told true f = f
    told false f = f

pub GoesInto-composed : (outer inner t : DomainAndMaps) (ds : List Bounds) → IsTransform inner → list_all is_ordered inner.domain.dims ≡ true
    → tightened inner.domain.dims outer.domain.dims inner.maps ≡ Ok ds → t ≡ joined outer (on_dims inner ds) → GoesInto t.domain.dims inner outer.domain.dims
GoesInto-composed outer inner t ds q o e f =
    let i = IsTightened-of inner.domain.dims outer.domain.dims inner.maps ds e in
    let ts : List Bounds = tight_dims 0 inner.domain.dims outer.domain.dims inner.maps in
    let ms : List OutMap = map (composed_map outer.domain.dims ts inner.maps) outer.maps in
    subst (λ (z : DomainAndMaps). GoesInto z.domain.dims inner outer.domain.dims) (sym (f ∙ ap (λ (x : List Bounds). joined outer (on_dims inner x)) i.dims))
    (λ g cell c. GoesInto-tight inner.domain.dims outer.domain.dims inner.maps o q.maps i.inside (finite-closed 0 ts ms g) cell (cell-closed 0 ts ms cell c))

-- a tightened transform keeps its values, and its cells go into the outer domain
pub values-tightened : (old new : DomainAndMaps) (os ds : List Bounds) → IsTransform old → list_all is_ordered old.domain.dims ≡ true
    → tightened old.domain.dims os old.maps ≡ Ok ds → new ≡ on_dims old ds → (index : List ℤ) → value_at new index ≡ value_at old index
values-tightened old new os ds t o e f index =
    let i = IsTightened-of old.domain.dims os old.maps ds e in
    ap (λ (z : DomainAndMaps). value_at z index) f
    ∙ ap (λ (x : List Bounds). map (map_value x index) old.maps) i.dims
    ∙ values-tight old.domain.dims os old.maps index old.maps o t.maps

pub GoesInto-tightened : (old new : DomainAndMaps) (os ds : List Bounds) → IsTransform old → list_all is_ordered old.domain.dims ≡ true
    → tightened old.domain.dims os old.maps ≡ Ok ds → new ≡ on_dims old ds → GoesInto new.domain.dims new os
GoesInto-tightened old new os ds t o e f = λ g cell c.
    let i = IsTightened-of old.domain.dims os old.maps ds e in
    let d : new.domain.dims ≡ tight_dims 0 old.domain.dims os old.maps = ap (λ (z : DomainAndMaps). z.domain.dims) f ∙ i.dims in
    ap (λ (ys : List ℤ). first_outside os ys) (values-tightened old new os ds t o e f cell)
    ∙ GoesInto-tight old.domain.dims os old.maps o t.maps i.inside
    (subst (λ (x : List Bounds). list_all is_finite x ≡ true) d g) cell (subst (λ (x : List Bounds). IsCell x cell) d c)
