-- A transform whose bounds are opened is one, and a renewed view by its form.
use Rattle.std.proofs.Common.{◌≡◌, ◌∙◌, ℕ, ◌+◌, ◌<◌, ◌==◌, ◌&&◌, ◌||◌, not, cond, nat_lt, Bool, true, false, List, [], ◌∷◌, ◌++◌, length, take, get_or, Option, Some, Result, Ok, Err, map, refl, sym, ap, subst, arith}
use Rattle.std.proofs.lemmas.List.{take_more, length-take-le}
use Rattle.std.specs.List.{list_all, list_any, zip}
use Rattle.cast_driver.specs.declared.Dtype.{Dtype}
use Rattle.cast_driver.proofs.Laws.{both, both_true}
use Rattle.transform_composition.specs.Bounds.{Bounds, is_index}
use Rattle.transform_composition.specs.Members.{effective_bounds}
use Rattle.transform_composition.specs.Maps.{is_map, is_fixed, fits_dim, fits, are_entries, size_of}
use Rattle.transform_composition.specs.Transforms.{DomainAndMaps}
use Rattle.transform_composition.specs.declared.OutMap.{OutMap}
use Rattle.transform_composition.specs.declared.OutMap.TheVariants.{Constant, Strided, Indexed}
use Rattle.stack_driver.specs.References.{Reference}
use Rattle.transform_composition.specs.Tightening.{tightened, tighten_answer, on_result, on_dims}
use Rattle.transform_composition.specs.declared.error.ComposeError.{ComposeError}
use Rattle.stack_driver.specs.Arrays.{array_domain}
use Rattle.stack_driver.specs.Conditions.{IsView}
use Rattle.stack_driver.specs.Views.{Look, look_of}
use Rattle.stack_driver.specs.Renewed.{MayRenew, array_of, array_step, goes_from, opened_dims, opened, reshaped, leaf_of, leaf_renewed, cast_renewed, renew_step, renewed}
use Rattle.stack_driver.specs.declared.error.RenewError.{RenewError}
use Rattle.stack_driver.specs.declared.error.RenewError.TheVariants.{NotArray}
use Rattle.stack_driver.specs.declared.view.View.{View, ind-View, roll-View, map-View, fold-roll-View}
use Rattle.stack_driver.specs.declared.view.View.TheOpen.{View-F}
use Rattle.stack_driver.specs.declared.view.View.TheVariants as view
use Rattle.stack_driver.proofs.ArrayRules.{leaf_view}
use Rattle.stack_driver.proofs.Kept.{cast_view}
use Rattle.stack_driver.proofs.Layers.{leaf_node, base_view}
use Rattle.stack_driver.proofs.Looks.{look-Leaf, look-Cast}

abbrev opened_dim : ℕ → Bounds → List OutMap → Bounds
opened_dim k dim maps = cond (list_any (goes_from k) maps) (effective_bounds dim) dim

opened_dims-more : (k : ℕ) (dims : List Bounds) (dim : Bounds) (maps : List OutMap) → opened_dims k (dims ++ dim ∷ []) maps ≡ opened_dims k dims maps ++ opened_dim (k + length dims) dim maps ∷ []
opened_dims-more k [] dim maps = ap (λ n. opened_dim n dim maps ∷ []) (omega arith)
opened_dims-more k (d ∷ dims) dim maps =
    ap (λ ds. opened_dim k d maps ∷ ds) (opened_dims-more (k + 1) dims dim maps ∙ ap (λ n. opened_dims (k + 1) dims maps ++ opened_dim n dim maps ∷ []) (omega arith))

from_zero : (n k : ℕ) → n ≡ k → 0 + n ≡ k
from_zero n k e = omega (arith, e)

-- the front with one dimension more
pub opened_dims-step : (dims : List Bounds) (k : ℕ) (dim : Bounds) (maps : List OutMap) → k < length dims → dim ≡ get_or dims k dim
    → opened_dims 0 (take (k + 1) dims) maps ≡ opened_dims 0 (take k dims) maps ++ opened_dim k dim maps ∷ []
opened_dims-step dims k dim maps below is =
    ap (λ ds. opened_dims 0 ds maps) (take_more dims k dim below ∙ ap (λ d. take k dims ++ d ∷ []) (sym is))
    ∙ opened_dims-more 0 (take k dims) dim maps
    ∙ ap (λ n. opened_dims 0 (take k dims) maps ++ opened_dim n dim maps ∷ []) (from_zero (length (take k dims)) k (length-take-le k dims (omega (arith, below))))

pub length-opened_dims : (k : ℕ) (dims : List Bounds) (maps : List OutMap) → length (opened_dims k dims maps) ≡ length dims
length-opened_dims k [] maps = refl
length-opened_dims k (d ∷ dims) maps = let rest = length-opened_dims (k + 1) dims maps in grind (arith, rest)

-- explicit bounds stay
fixed_stays : (d : Bounds) → is_fixed d ≡ true → effective_bounds d ≡ d
fixed_stays d e =
    let p = both (not d.lo_implicit && not d.hi_implicit && is_index d.lo) (is_index d.hi) e in
    let q = both (not d.lo_implicit && not d.hi_implicit) (is_index d.lo) p.0 in
    let r = both (not d.lo_implicit) (not d.hi_implicit) q.0 in
    bounds d.lo_implicit d.hi_implicit refl refl r.0 r.1
  where
    bounds : (l h : Bool) → d.lo_implicit ≡ l → d.hi_implicit ≡ h → not l ≡ true → not h ≡ true → effective_bounds d ≡ d
    bounds true h f g a b = cc
    bounds false true f g a b = cc
    bounds false false f g a b = rw (f, g) refl

fits_still : (k : ℕ) (d : Bounds) (n : ℕ) (maps : List OutMap) → fits_dim d n ≡ true → fits_dim (opened_dim k d maps) n ≡ true
fits_still k d n maps e = told (n == 1) refl e (list_any (goes_from k) maps)
  where
    told : (b : Bool) → (n == 1) ≡ b → (b || (is_fixed d && n == size_of d)) ≡ true → (c : Bool) → fits_dim (cond c (effective_bounds d) d) n ≡ true
    told b f g false = e
    told true f g true = rw f refl
    told false f g true = let p = both (is_fixed d) (n == size_of d) g in subst (λ b. fits_dim b n ≡ true) (sym (fixed_stays d p.0)) e

all_fit : (k : ℕ) (dims : List Bounds) (sizes : List ℕ) (maps : List OutMap) → list_all (λ p. fits_dim p.0 p.1) (zip dims sizes) ≡ true
    → list_all (λ p. fits_dim p.0 p.1) (zip (opened_dims k dims maps) sizes) ≡ true
all_fit k [] sizes maps e = refl
all_fit k (d ∷ dims) [] maps e = refl
all_fit k (d ∷ dims) (n ∷ sizes) maps e =
    let p = both (fits_dim d n) (list_all (λ p. fits_dim p.0 p.1) (zip dims sizes)) e in
    both_true (fits_dim (opened_dim k d maps) n) (list_all (λ p. fits_dim p.0 p.1) (zip (opened_dims (k + 1) dims maps) sizes)) (fits_still k d n maps p.0) (all_fit (k + 1) dims sizes maps p.1)

map_still : (dims : List Bounds) (maps : List OutMap) (m : OutMap) → is_map dims m ≡ true → is_map (opened_dims 0 dims maps) m ≡ true
map_still dims maps (Constant o) e = refl
map_still dims maps (Strided o s from) e = ap (λ n. nat_lt from n) (length-opened_dims 0 dims maps) ∙ e
map_still dims maps (Indexed o s sizes entries) e =
    let p = both (fits dims sizes) (are_entries sizes entries) e in
    let q = both (length dims == length sizes) (list_all (λ p. fits_dim p.0 p.1) (zip dims sizes)) p.0 in
    both_true (fits (opened_dims 0 dims maps) sizes) (are_entries sizes entries)
    (both_true (length (opened_dims 0 dims maps) == length sizes) (list_all (λ p. fits_dim p.0 p.1) (zip (opened_dims 0 dims maps) sizes))
    (ap (λ n. n == length sizes) (length-opened_dims 0 dims maps) ∙ q.0) (all_fit 0 dims sizes maps q.1))
    p.1

-- the maps go from the opened dimensions
pub maps_still : (dims : List Bounds) (all maps : List OutMap) → list_all (is_map dims) maps ≡ true → list_all (is_map (opened_dims 0 dims all)) maps ≡ true
maps_still dims all [] e = refl
maps_still dims all (m ∷ ms) e =
    let p = both (is_map dims m) (list_all (is_map dims) ms) e in
    both_true (is_map (opened_dims 0 dims all) m) (list_all (is_map (opened_dims 0 dims all)) ms) (map_still dims all m p.0) (maps_still dims all ms p.1)

pub array-Leaf : (array : Reference) (t : DomainAndMaps) → array_of (view.Leaf array t) ≡ Some array
array-Leaf array t = ap array_of (sym (view.rolls-Leaf array t)) ∙ fold-roll-View (Option Reference) array_step (View-F.Leaf array t)

pub array-Cast : (to : Dtype) (base : View) → array_of (view.Cast to base) ≡ array_of base
array-Cast to base = ap array_of (sym (view.rolls-Cast to base)) ∙ fold-roll-View (Option Reference) array_step (View-F.Cast to base)

pub renewed-Leaf : (shape : List ℕ) (array : Reference) (t : DomainAndMaps) → renewed shape (view.Leaf array t) ≡ leaf_renewed shape array t
renewed-Leaf shape array t = ap (renewed shape) (sym (view.rolls-Leaf array t)) ∙ fold-roll-View (Result View RenewError) (renew_step shape) (View-F.Leaf array t)

pub renewed-Cast : (shape : List ℕ) (to : Dtype) (base : View) → renewed shape (view.Cast to base) ≡ cast_renewed to (renewed shape base)
renewed-Cast shape to base = ap (renewed shape) (sym (view.rolls-Cast to base)) ∙ fold-roll-View (Result View RenewError) (renew_step shape) (View-F.Cast to base)

pub renewed-Stack : (shape : List ℕ) (layers : List View) (t : DomainAndMaps) → renewed shape (view.Stack layers t) ≡ Err NotArray
renewed-Stack shape layers t = ap (renewed shape) (sym (view.rolls-Stack layers t)) ∙ fold-roll-View (Result View RenewError) (renew_step shape) (View-F.Stack layers t)

abbrev Keeps : List ℕ → View → Type 0
Keeps shape v = (w : View) → renewed shape v ≡ Ok w → MayRenew v shape → (IsView v → IsView w) × ((look_of w).dtype ≡ (look_of v).dtype)

tight-maps : (t : DomainAndMaps) (r : Result (List Bounds) ComposeError) (u : DomainAndMaps) → on_result t r ≡ Ok u → u.maps ≡ t.maps
tight-maps t (Ok dims) u e = let same : on_dims t dims ≡ u = cc in ap (λ (x : DomainAndMaps). x.maps) (sym same)
tight-maps t (Err x) u e = absurd (cc)

keeps-Leaf : (shape : List ℕ) (array : Reference) (t : DomainAndMaps) → Keeps shape (view.Leaf array t)
keeps-Leaf shape array t w e may = told (tighten_answer (opened t) (array_domain (reshaped shape array))) refl (sym (renewed-Leaf shape array t) ∙ e)
  where
    told : (a : Result DomainAndMaps ComposeError) → tighten_answer (opened t) (array_domain (reshaped shape array)) ≡ a → leaf_of (reshaped shape array) a ≡ Ok w
        → (IsView (view.Leaf array t) → IsView w) × ((look_of w).dtype ≡ (look_of (view.Leaf array t)).dtype)
    told (Err x) f g = absurd (cc)
    told (Ok u) f g =
        let same : view.Leaf (reshaped shape array) u ≡ w = cc in
        let maps = tight-maps (opened t) (tightened (opened t).domain.dims (array_domain (reshaped shape array)).dims (opened t).maps) u f in (
          λ h.
              subst IsView same
              (leaf_view (reshaped shape array) u
              (ap (λ (ms : List OutMap). length ms) maps ∙ leaf_node array t h ∙ sym ((may array (array-Leaf array t)).ranks))),
          sym (ap (λ v. (look_of v).dtype) same) ∙ ap (λ (l : Look). l.dtype) (look-Leaf (reshaped shape array) u) ∙ sym (ap (λ (l : Look). l.dtype) (look-Leaf array t)),
        )

keeps-Cast : (shape : List ℕ) (to : Dtype) (base : View) → Keeps shape base → Keeps shape (view.Cast to base)
keeps-Cast shape to base rest w e may = told (renewed shape base) refl (sym (renewed-Cast shape to base) ∙ e)
  where
    told : (r : Result View RenewError) → renewed shape base ≡ r → cast_renewed to r ≡ Ok w → (IsView (view.Cast to base) → IsView w) × ((look_of w).dtype ≡ (look_of (view.Cast to base)).dtype)
    told (Err x) f g = absurd (cc)
    told (Ok b) f g =
        let same : view.Cast to b ≡ w = cc in (
          λ h. subst IsView same (cast_view to b ((rest b f (λ r is. may r (array-Cast to base ∙ is))).0 (base_view to base h))),
          sym (ap (λ v. (look_of v).dtype) same) ∙ ap (λ (l : Look). l.dtype) (look-Cast to b) ∙ sym (ap (λ (l : Look). l.dtype) (look-Cast to base)),
        )

keeps-Stack : (shape : List ℕ) (layers : List View) (t : DomainAndMaps) → Keeps shape (view.Stack layers t)
keeps-Stack shape layers t w e may = let never : Err NotArray ≡ Ok w = sym (renewed-Stack shape layers t) ∙ e in absurd (cc)

keeps_step : (shape : List ℕ) (x : View-F View) (y : View-F ((z : View) × Keeps shape z)) → map-View ((z : View) × Keeps shape z) View (λ e. e.0) y ≡ x → Keeps shape (roll-View x)
keeps_step shape x (View-F.Leaf array u) e = subst (λ z. Keeps shape (roll-View z)) e (subst (Keeps shape) (sym (view.rolls-Leaf array u)) (keeps-Leaf shape array u))
keeps_step shape x (View-F.Cast to p) e = subst (λ z. Keeps shape (roll-View z)) e (subst (Keeps shape) (sym (view.rolls-Cast to p.0)) (keeps-Cast shape to p.0 p.1))
keeps_step shape x (View-F.Stack ys u) e =
    subst (λ z. Keeps shape (roll-View z)) e (subst (Keeps shape) (sym (view.rolls-Stack (map (λ y. y.0) ys) u)) (keeps-Stack shape (map (λ y. y.0) ys) u))

-- a renewed view keeps the conditions of its nodes, and its dtype
pub keeps : (shape : List ℕ) (v : View) → Keeps shape v
keeps shape v = ind-View (Keeps shape) (keeps_step shape) v
