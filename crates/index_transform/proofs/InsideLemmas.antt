-- A transform's maps have a number at each index vector that the domain has.
use Rattle.std.proofs.Common.{◌≡◌, ℕ, ◌==◌, Bool, true, false, not, ◌&&◌, ◌||◌, List, [], ◌∷◌, length, refl, arith, ℤ, ◌-ℤ◌, unsigned_abs, int_le, nat_lt, None}
use Rattle.std.proofs.lemmas.Int.{ints}
use Rattle.std.proofs.lemmas.Bool.Decides.{nat_tests}
use Rattle.std.specs.List.{list_all, zip}
use Rattle.index_intervals.specs.Bounds.{Bounds, is_index}
use Rattle.index_transform.specs.declared.map.OutMap.{OutMap}
use Rattle.index_transform.specs.declared.map.OutMap.TheVariants.{Constant, Strided, Indexed}
use Rattle.index_transform.specs.Maps.{size_of, is_fixed, fits_dim, fits, are_entries, is_map}
use Rattle.index_transform.specs.Values.{reaches_dim, reaches, has_value, is_effective, first_outside}
use Rattle.index_transform.proofs.MapLemmas.{list_all-position_from}
use Rattle.cells.proofs.Laws.{both, both_true}

-- an index between explicit bounds is one of so many
pub reaches_between : (d : Bounds) (n : ℕ) (x : ℤ) → (n == 1) ≡ false → n ≡ size_of d → int_le d.lo x ≡ true → int_le x d.hi ≡ true → reaches_dim d n x ≡ true
reaches_between d n x e s l h =
    let m : nat_lt (unsigned_abs (x -ℤ d.lo)) n ≡ true = grind (arith, ints, nat_tests) in
    rw (e, l, m) refl

reaches_fixed : (d : Bounds) (n : ℕ) (x : ℤ) → (n == 1) ≡ false → (is_fixed d && n == size_of d) ≡ true → is_effective d x ≡ true → reaches_dim d n x ≡ true
reaches_fixed d n x e f g =
    let p = both (is_fixed d) (n == size_of d) f in
    let q = both (not d.lo_implicit && not d.hi_implicit && is_index d.lo) (is_index d.hi) p.0 in
    let r = both (not d.lo_implicit && not d.hi_implicit) (is_index d.lo) q.0 in
    let t = both (not d.lo_implicit) (not d.hi_implicit) r.0 in
    let a = both (is_index x && (d.lo_implicit || int_le d.lo x)) (d.hi_implicit || int_le x d.hi) g in
    let b = both (is_index x) (d.lo_implicit || int_le d.lo x) a.0 in
    let size : n ≡ size_of d = grind (arith, nat_tests, p.1) in
    reaches_between d n x e size (second d.lo_implicit (int_le d.lo x) t.0 b.1) (second d.hi_implicit (int_le x d.hi) t.1 a.1)
  where
    second : (s t : Bool) → not s ≡ true → (s || t) ≡ true → t ≡ true
    second true t e f = cc
    second false t e f = f

pub reaches_dim-fits : (d : Bounds) (n : ℕ) (x : ℤ) → fits_dim d n ≡ true → is_effective d x ≡ true → reaches_dim d n x ≡ true
reaches_dim-fits d n x f g = told (n == 1) refl f
  where
    told : (b : Bool) → (n == 1) ≡ b → (b || (is_fixed d && n == size_of d)) ≡ true → reaches_dim d n x ≡ true
    told true e h = rw e refl
    told false e h = reaches_fixed d n x e h g

pub reaches-fits : (ds : List Bounds) (ns : List ℕ) (xs : List ℤ) → length ds ≡ length ns → length xs ≡ length ds
    → list_all (λ p. fits_dim p.0 p.1) (zip ds ns) ≡ true → list_all (λ p. is_effective p.0 p.1) (zip ds xs) ≡ true → reaches ds ns xs ≡ true
reaches-fits [] [] [] l m f g = refl
reaches-fits [] [] (x ∷ xs) l m f g = absurd (omega (arith, m))
reaches-fits [] (n ∷ ns) xs l m f g = absurd (omega (arith, l))
reaches-fits (d ∷ ds) [] xs l m f g = absurd (omega (arith, l))
reaches-fits (d ∷ ds) (n ∷ ns) [] l m f g = absurd (omega (arith, m))
reaches-fits (d ∷ ds) (n ∷ ns) (x ∷ xs) l m f g =
    let p = both (fits_dim d n) (list_all (λ p. fits_dim p.0 p.1) (zip ds ns)) f in
    let q = both (is_effective d x) (list_all (λ p. is_effective p.0 p.1) (zip ds xs)) g in
    both_true (reaches_dim d n x) (reaches ds ns xs) (reaches_dim-fits d n x p.0 q.0)
    (reaches-fits ds ns xs (omega (arith, l)) (omega (arith, m)) p.1 q.1)

-- one map, and all of them
has_value-is_map : (ds : List Bounds) (xs : List ℤ) (m : OutMap) → length xs ≡ length ds
    → list_all (λ p. is_effective p.0 p.1) (zip ds xs) ≡ true → is_map ds m ≡ true → has_value ds xs m ≡ true
has_value-is_map ds xs (Constant offset) l g e = refl
has_value-is_map ds xs (Strided offset stride dim) l g e = rw l e
has_value-is_map ds xs (Indexed offset stride sizes entries) l g e =
    let p = both (fits ds sizes) (are_entries sizes entries) e in
    let q = both (length ds == length sizes) (list_all (λ p. fits_dim p.0 p.1) (zip ds sizes)) p.0 in
    let same : length ds ≡ length sizes = grind (arith, nat_tests, q.0) in
    both_true (reaches ds sizes xs) (are_entries sizes entries) (reaches-fits ds sizes xs same l q.1 g) p.1

pub all_have_value : (ds : List Bounds) (xs : List ℤ) (ms : List OutMap) → length xs ≡ length ds
    → list_all (λ p. is_effective p.0 p.1) (zip ds xs) ≡ true → list_all (is_map ds) ms ≡ true → list_all (has_value ds xs) ms ≡ true
all_have_value ds xs [] l g e = refl
all_have_value ds xs (m ∷ ms) l g e =
    let p = both (is_map ds m) (list_all (is_map ds) ms) e in
    both_true (has_value ds xs m) (list_all (has_value ds xs) ms) (has_value-is_map ds xs m l g p.0) (all_have_value ds xs ms l g p.1)

pub has_value-inside : (ds : List Bounds) (xs : List ℤ) (ms : List OutMap) → length xs ≡ length ds
    → first_outside ds xs ≡ None → list_all (is_map ds) ms ≡ true → list_all (has_value ds xs) ms ≡ true
has_value-inside ds xs ms l o e = all_have_value ds xs ms l (list_all-position_from (λ p. is_effective p.0 p.1) 0 (zip ds xs) o) e
