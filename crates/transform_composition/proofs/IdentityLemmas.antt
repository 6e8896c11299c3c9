-- Composing with the identity over an outer domain is tightening by it.
use Rattle.std.proofs.Common.{◌≡◌, ◌∙◌, zero, suc, ℕ, ◌+◌, ◌<◌, ◌==◌, Bool, true, false, cond, not, ◌&&◌, ◌||◌, List, [], ◌∷◌, length, map, get_or, refl, sym, ap, arith, ℤ, pos, ◌+ℤ◌, ◌*ℤ◌, Option, Some, None, Ok, IfOk}
use Rattle.std.proofs.Math.IntN.{*ℤ_comm, *ℤ-one, one}
use Rattle.std.proofs.lemmas.Int.{ints}
use Rattle.std.proofs.lemmas.Bool.Decides.{nat_tests}
use Rattle.std.specs.List.{list_all, list_any, zip, position_from}
use Rattle.index_transform.specs.Bounds.{Bounds, is_index}
use Rattle.index_transform.specs.declared.domain.Domain.{Domain}
use Rattle.index_transform.specs.declared.map.OutMap.{OutMap}
use Rattle.index_transform.specs.declared.map.OutMap.TheVariants.{Constant, Strided, Indexed}
use Rattle.index_transform.specs.Maps.{size_of, is_fixed, fits_dim, fits, are_entries, is_map}
use Rattle.index_transform.specs.Transforms.{DomainAndMaps}
use Rattle.transform_composition.specs.Tightening.{tightened, on_dims}
use Rattle.transform_composition.specs.Reading.{has_array_along, point}
use Rattle.transform_composition.specs.Composing.{nowhere, strided_over, composed_map, passes_word, is_too_large, closed, closed_dims, joined, unless_passed, unless_large, composed}
use Rattle.transform_composition.specs.Agreeing.{identity_maps, identity_over}
use Rattle.index_transform.proofs.Laws.{both}

one_times : (q : ℤ) → pos 1 *ℤ q ≡ q
unfolding one
one_times q = *ℤ_comm (pos 1) q ∙ *ℤ-one q

none_added : (p : ℤ) → pos 0 +ℤ pos 1 *ℤ p ≡ p
none_added p = let e = one_times p in omega (arith, ints, e)

strided_over-one : (m : OutMap) → strided_over (pos 0) (pos 1) m ≡ m
strided_over-one (Constant p) = ap (λ x. Constant x) (none_added p)
strided_over-one (Strided p q dim) = ap (λ x. Strided x (pos 1 *ℤ q) dim) (none_added p) ∙ ap (λ x. Strided p x dim) (one_times q)
strided_over-one (Indexed p q ns entries) = ap (λ x. Indexed x (pos 1 *ℤ q) ns entries) (none_added p) ∙ ap (λ x. Indexed p x ns entries) (one_times q)

-- the inner maps come back
maps-identity : (os ds : List Bounds) (all : List OutMap) (k : ℕ) (ps : List Bounds) (gs : List OutMap) → length gs ≡ length ps
    → ((i : ℕ) → i < length gs → get_or all (k + i) nowhere ≡ get_or gs i nowhere) → map (composed_map os ds all) (identity_maps k ps) ≡ gs
maps-identity os ds all k [] [] l h = refl
maps-identity os ds all k [] (g ∷ gs) l h = absurd (omega (arith, l))
maps-identity os ds all k (p ∷ ps) [] l h = absurd (omega (arith, l))
maps-identity os ds all k (p ∷ ps) (g ∷ gs) l h =
    let z : k + 0 ≡ k = omega arith in
    let here = (rw z at (h 0 (omega arith))) in
    let rest = maps-identity os ds all (k + 1) ps gs (omega (arith, l)) (λ i b. let y : (k + 1) + i ≡ k + suc i = omega arith in rw y (h (suc i) (omega (arith, b)))) in
    ap (λ m. m ∷ map (composed_map os ds all) (identity_maps (k + 1) ps)) (strided_over-one (get_or all k nowhere) ∙ here)
    ∙ ap (λ ms. g ∷ ms) rest

-- a dimension on which an index array depends is explicit
fixed-fits : (ds : List Bounds) (ns : List ℕ) (i : ℕ) → length ds ≡ length ns → list_all (λ p. fits_dim p.0 p.1) (zip ds ns) ≡ true
    → i < length ds → not (get_or ns i 1 == 1) ≡ true → is_fixed (get_or ds i point) ≡ true
fixed-fits [] ns i l f h e = absurd (omega (arith, h))
fixed-fits (d ∷ ds) [] i l f h e = absurd (omega (arith, l))
fixed-fits (d ∷ ds) (n ∷ ns) zero l f h e =
    told (n == 1) e ((both (fits_dim d n) (list_all (λ p. fits_dim p.0 p.1) (zip ds ns)) f).0)
  where
    told : (b : Bool) → not b ≡ true → (b || (is_fixed d && n == size_of d)) ≡ true → is_fixed d ≡ true
    told true g k = cc
    told false g k = (both (is_fixed d) (n == size_of d) k).0
fixed-fits (d ∷ ds) (n ∷ ns) (suc i) l f h e =
    fixed-fits ds ns i (omega (arith, l)) ((both (fits_dim d n) (list_all (λ p. fits_dim p.0 p.1) (zip ds ns)) f).1) (omega (arith, h)) e

fixed-along : (ds : List Bounds) (g : OutMap) (i : ℕ) → is_map ds g ≡ true → i < length ds → has_array_along i g ≡ true → is_fixed (get_or ds i point) ≡ true
fixed-along ds (Constant o) i e h a = cc
fixed-along ds (Strided o s dim) i e h a = cc
fixed-along ds (Indexed o s ns entries) i e h a =
    let u = both (fits ds ns) (are_entries ns entries) e in
    let v = both (length ds == length ns) (list_all (λ p. fits_dim p.0 p.1) (zip ds ns)) u.0 in
    fixed-fits ds ns i (grind (arith, nat_tests, v.0)) v.1 h a

fixed-any : (ds : List Bounds) (gs : List OutMap) (i : ℕ) → list_all (is_map ds) gs ≡ true → i < length ds
    → list_any (has_array_along i) gs ≡ true → is_fixed (get_or ds i point) ≡ true
fixed-any ds [] i e h a = cc
fixed-any ds (g ∷ gs) i e h a =
    let p = both (is_map ds g) (list_all (is_map ds) gs) e in
    told (has_array_along i g) refl (λ u. fixed-any ds gs i p.1 h u) a
  where
    told : (b : Bool) → has_array_along i g ≡ b → (list_any (has_array_along i) gs ≡ true → is_fixed (get_or ds i point) ≡ true)
        → (b || list_any (has_array_along i) gs) ≡ true → is_fixed (get_or ds i point) ≡ true
    told true f k u = fixed-along ds g i ((both (is_map ds g) (list_all (is_map ds) gs) e).0) h f
    told false f k u = k u

closed-fixed : (d : Bounds) → is_fixed d ≡ true → closed d ≡ d
closed-fixed d e =
    let q = both (not d.lo_implicit && not d.hi_implicit && is_index d.lo) (is_index d.hi) e in
    let r = both (not d.lo_implicit && not d.hi_implicit) (is_index d.lo) q.0 in
    let t = both (not d.lo_implicit) (not d.hi_implicit) r.0 in
    ap (λ b. let x : Bounds = record { lo = d.lo; hi = d.hi; lo_implicit = b; hi_implicit = false } in x) (sym (off d.lo_implicit t.0))
    ∙ ap (λ b. let x : Bounds = record { lo = d.lo; hi = d.hi; lo_implicit = d.lo_implicit; hi_implicit = b } in x) (sym (off d.hi_implicit t.1))
  where
    off : (b : Bool) → not b ≡ true → b ≡ false
    off true e = cc
    off false e = refl

closed_dims-same : (k : ℕ) (ds : List Bounds) (gs : List OutMap)
    → ((i : ℕ) → i < length ds → list_any (has_array_along (k + i)) gs ≡ true → is_fixed (get_or ds i point) ≡ true) → closed_dims k ds gs ≡ ds
closed_dims-same k [] gs h = refl
closed_dims-same k (d ∷ ds) gs h =
    let z : k + 0 ≡ k = omega arith in
    let rest = closed_dims-same (k + 1) ds gs (λ i b u. let y : (k + 1) + i ≡ k + suc i = omega arith in h (suc i) (omega (arith, b)) (rw y at u)) in
    ap (λ x. x ∷ closed_dims (k + 1) ds gs) (told (list_any (has_array_along k) gs) (λ u. h 0 (omega arith) (rw z u)))
    ∙ ap (λ xs. d ∷ xs) rest
  where
    told : (b : Bool) → (b ≡ true → is_fixed d ≡ true) → cond b (closed d) d ≡ d
    told true u = closed-fixed d (u refl)
    told false u = refl

joined-identity : (outer : Domain) (t : DomainAndMaps) → length t.maps ≡ length outer.dims → list_all (is_map t.domain.dims) t.maps ≡ true
    → joined (identity_over outer) t ≡ t
joined-identity outer t l e =
    let m = maps-identity outer.dims t.domain.dims t.maps 0 outer.dims t.maps l (λ i b. let z : 0 + i ≡ i = omega arith in rw z refl) in
    let d = closed_dims-same 0 t.domain.dims t.maps (λ i b u. let z : 0 + i ≡ i = omega arith in fixed-any t.domain.dims t.maps i e b (rw z at u)) in
    ap (λ (ms : List OutMap). let x : DomainAndMaps = record { domain = record { dims = closed_dims 0 t.domain.dims ms; labels = t.domain.labels }; maps = ms } in x) m
    ∙ ap (λ (ds : List Bounds). let x : DomainAndMaps = record { domain = record { dims = ds; labels = t.domain.labels }; maps = t.maps } in x) d

-- so where that composition is answered, it is the tightened transform
pub composed-identity : (outer : Domain) (old new : DomainAndMaps) (ds : List Bounds) → length old.maps ≡ length outer.dims → list_all (is_map ds) old.maps ≡ true
    → tightened old.domain.dims outer.dims old.maps ≡ Ok ds → new ≡ on_dims old ds → IfOk (composed (identity_over outer) old) (λ t. t ≡ new)
composed-identity outer old new ds l e f g =
    rw f (told (position_from (passes_word old.maps) 0 (identity_maps 0 outer.dims)) (position_from (is_too_large ds old.maps) 0 (identity_maps 0 outer.dims)))
  where
    told : (p q : Option ℕ) → IfOk (unless_passed p (unless_large q (joined (identity_over outer) (on_dims old ds)))) (λ t. t ≡ new)
    told (Some k) q = tt
    told None (Some k) = tt
    told None None = joined-identity outer (on_dims old ds) l e ∙ sym g
