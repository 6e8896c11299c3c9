-- The maps go from the tightened dimensions too.
use Rattle.std.proofs.Common.{◌≡◌, suc, ℕ, ◌+◌, ◌==◌, ◌&&◌, Bool, true, false, not, List, [], ◌∷◌, length, refl, sym, ap, subst, arith, pos, ◌+ℤ◌}
use Rattle.std.proofs.lemmas.Int.{ints}
use Rattle.std.specs.Int.RustNames.{int_lt}
use Rattle.std.specs.List.{list_all, zip}
use Rattle.index_transform.specs.Bounds.{Bounds, is_index}
use Rattle.index_transform.specs.declared.map.OutMap.{OutMap}
use Rattle.index_transform.specs.declared.map.OutMap.TheVariants.{Constant, Strided, Indexed}
use Rattle.index_transform.specs.Maps.{is_fixed, fits_dim, fits, are_entries, is_map}
use Rattle.transform_composition.specs.Tightening.{tight_lower, tight_upper, interval_of, tight_dims, is_ordered}
use Rattle.index_transform.proofs.Laws.{both, both_true}

pub length-tight_dims : (k : ℕ) (inners outers : List Bounds) (maps : List OutMap) → length (tight_dims k inners outers maps) ≡ length inners
length-tight_dims k [] outers maps = refl
length-tight_dims k (d ∷ ds) outers maps = ap suc (length-tight_dims (k + 1) ds outers maps)

not-true : (b : Bool) → not b ≡ true → b ≡ false
not-true true e = cc
not-true false e = refl

-- explicit finite bounds stay
pub tight-fixed : (k : ℕ) (d : Bounds) (outers : List Bounds) (maps : List OutMap) → is_fixed d ≡ true → is_ordered d ≡ true
    → interval_of (tight_lower k d outers maps) (tight_upper k d outers maps) ≡ d
tight-fixed k d outers maps f o =
    let q = both (not d.lo_implicit && not d.hi_implicit && is_index d.lo) (is_index d.hi) f in
    let r = both (not d.lo_implicit && not d.hi_implicit) (is_index d.lo) q.0 in
    let t = both (not d.lo_implicit) (not d.hi_implicit) r.0 in
    let lo = not-true d.lo_implicit t.0 in
    let hi = not-true d.hi_implicit t.1 in
    let c : int_lt (d.hi +ℤ pos 1) d.lo ≡ false = grind (arith, ints, o) in
    rw (lo, hi, r.1, q.1, c) refl

-- where the dimensions are ordered, a size that fits one fits it when it is tightened
fits-dim-tight : (k : ℕ) (d : Bounds) (outers : List Bounds) (maps : List OutMap) (n : ℕ) → is_ordered d ≡ true → fits_dim d n ≡ true
    → fits_dim (interval_of (tight_lower k d outers maps) (tight_upper k d outers maps)) n ≡ true
fits-dim-tight k d outers maps n o f = split (n == 1) (is_fixed d) refl refl where
  split : (one fixed : Bool) → (n == 1) ≡ one → is_fixed d ≡ fixed
      → fits_dim (interval_of (tight_lower k d outers maps) (tight_upper k d outers maps)) n ≡ true
  split true fixed a b = rw a refl
  split false true a b = subst (λ (x : Bounds). fits_dim x n ≡ true) (sym (tight-fixed k d outers maps b o)) f
  split false false a b = cc ((rw (a, b) at f))

fits-tight : (k : ℕ) (ds outers : List Bounds) (maps : List OutMap) (sizes : List ℕ) → list_all is_ordered ds ≡ true
    → list_all (λ p. fits_dim p.0 p.1) (zip ds sizes) ≡ true
    → list_all (λ p. fits_dim p.0 p.1) (zip (tight_dims k ds outers maps) sizes) ≡ true
fits-tight k [] outers maps sizes o f = refl
fits-tight k (d ∷ ds) outers maps [] o f = refl
fits-tight k (d ∷ ds) outers maps (n ∷ sizes) o f =
    let os = both (is_ordered d) (list_all is_ordered ds) o in
    let fs = both (fits_dim d n) (list_all (λ p. fits_dim p.0 p.1) (zip ds sizes)) f in
    both_true (fits_dim (interval_of (tight_lower k d outers maps) (tight_upper k d outers maps)) n) (list_all (λ p. fits_dim p.0 p.1) (zip (tight_dims (k + 1) ds outers maps) sizes)) (fits-dim-tight k d outers maps n os.0 fs.0) (fits-tight (k + 1) ds outers maps sizes os.1 fs.1)

map-tight : (ds outers : List Bounds) (maps : List OutMap) (m : OutMap) → list_all is_ordered ds ≡ true
    → is_map ds m ≡ true → is_map (tight_dims 0 ds outers maps) m ≡ true
map-tight ds outers maps (Constant offset) o f = refl
map-tight ds outers maps (Strided offset stride dim) o f = rw (length-tight_dims 0 ds outers maps) f
map-tight ds outers maps (Indexed offset stride sizes entries) o f =
    let a = both (fits ds sizes) (are_entries sizes entries) f in
    let b = both (length ds == length sizes) (list_all (λ p. fits_dim p.0 p.1) (zip ds sizes)) a.0 in
    both_true (fits (tight_dims 0 ds outers maps) sizes) (are_entries sizes entries)
    (both_true (length (tight_dims 0 ds outers maps) == length sizes) (list_all (λ p. fits_dim p.0 p.1) (zip (tight_dims 0 ds outers maps) sizes)) (rw (length-tight_dims 0 ds outers maps) b.0) (fits-tight 0 ds outers maps sizes o b.1)) a.1

pub maps-tight : (ds outers : List Bounds) (maps ms : List OutMap) → list_all is_ordered ds ≡ true
    → list_all (is_map ds) ms ≡ true → list_all (is_map (tight_dims 0 ds outers maps)) ms ≡ true
maps-tight ds outers maps [] o f = refl
maps-tight ds outers maps (m ∷ ms) o f =
    let fs = both (is_map ds m) (list_all (is_map ds) ms) f in
    both_true (is_map (tight_dims 0 ds outers maps) m) (list_all (is_map (tight_dims 0 ds outers maps)) ms) (map-tight ds outers maps m o fs.0) (maps-tight ds outers maps ms o fs.1)
