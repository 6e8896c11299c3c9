-- The composed maps go from the dimensions made explicit.
use Rattle.std.proofs.Common.{◌≡◌, ◌≢◌, ◌∙◌, zero, suc, ℕ, ◌+◌, ◌<◌, ◌==◌, Bool, true, false, cond, not, ◌&&◌, ◌||◌, List, [], ◌∷◌, ◌++◌, length, map, take, drop, get_or, refl, sym, ap, arith, ℤ, pos, ◌*ℤ◌, nat_le, None, Some, Ok, Err}
use Rattle.std.proofs.Math.ListN.{set}
use Rattle.std.proofs.Math.Seq.{drop-length, take-length}
use Rattle.std.proofs.lemmas.List.{length-map, append-nil}
use Rattle.std.proofs.lemmas.Bool.Decides.{nat_tests}
use Rattle.std.proofs.lemmas.Bool.Decides.{Decides-int_eq}
use Rattle.std.specs.List.{list_all, list_any, zip, position_from}
use Rattle.std.specs.Ordering.{int_eq}
use Rattle.index_transform.specs.Places.{cell_count}
use Rattle.index_transform.specs.Bounds.{Bounds, is_index}
use Rattle.index_transform.specs.declared.map.OutMap.{OutMap}
use Rattle.index_transform.specs.declared.map.OutMap.TheVariants.{Constant, Strided, Indexed}
use Rattle.index_transform.specs.Maps.{size_of, is_fixed, fits_dim, fits, are_entries, is_map, is_plain}
use Rattle.index_transform.specs.Transforms.{DomainAndMaps, IsTransform}
use Rattle.index_transform.specs.Cells.{is_finite, cells_of}
use Rattle.transform_composition.specs.Tightening.{tightened, are_bounds, on_dims}
use Rattle.transform_composition.specs.Inside.{first_outside_by}
use Rattle.transform_composition.specs.Reading.{has_array_along, is_read_along, read_along, read_dims, read_sizes, read_entries, entry_over, point}
use Rattle.transform_composition.specs.Composing.{nowhere, strided_over, composed_map, passes_word, is_too_large, closed, closed_along, closed_dims, joined, composed}
use Rattle.transform_composition.specs.declared.error.ComposeError.TheVariants.{Overflow, TooLarge}
use Rattle.index_transform.proofs.Laws.{length-cells_of, get_or-inside, set-more, fails, all-at, product_nonzero}
use Rattle.transform_composition.proofs.FiniteLemmas.{finite-read-at}
use Rattle.index_transform.proofs.Laws.{both, both_true}

pub length-closed_dims : (k : ℕ) (ds : List Bounds) (ms : List OutMap) → length (closed_dims k ds ms) ≡ length ds
length-closed_dims k [] ms = refl
length-closed_dims k (d ∷ ds) ms = ap suc (length-closed_dims (k + 1) ds ms)

pub closed_dims-at : (k : ℕ) (ds : List Bounds) (ms : List OutMap) (i : ℕ) (x : Bounds) → i < length ds
    → get_or (closed_dims k ds ms) i x ≡ closed_along (k + i) ms (get_or ds i x)
closed_dims-at k [] ms i x h = absurd (omega (arith, h))
closed_dims-at k (d ∷ ds) ms zero x h = let z : k + 0 ≡ k = omega arith in rw z refl
closed_dims-at k (d ∷ ds) ms (suc i) x h =
    let z : k + suc i ≡ (k + 1) + i = omega arith in rw z (closed_dims-at (k + 1) ds ms i x (omega (arith, h)))

-- what stands behind what was overwritten
get_or-front : {X : Type 0} (news olds : List X) (k : ℕ) (x : X) → length news ≡ length olds → k < length olds
    → get_or (take k news ++ drop k olds) k x ≡ get_or olds k x
get_or-front [] [] k x l h = absurd (omega (arith, h))
get_or-front [] (o ∷ olds) k x l h = absurd (omega (arith, l))
get_or-front (n ∷ news) [] k x l h = absurd (omega (arith, h))
get_or-front (n ∷ news) (o ∷ olds) zero x l h = refl
get_or-front (n ∷ news) (o ∷ olds) (suc k) x l h = get_or-front news olds k x (omega (arith, l)) (omega (arith, h))

pub closed_dims-more : (ds : List Bounds) (ms : List OutMap) (k : ℕ) (items : List Bounds) (d : Bounds) → k < length ds
    → items ≡ take k (closed_dims 0 ds ms) ++ drop k ds → d ≡ get_or items k d
    → set items k (closed_along k ms d) ≡ take (k + 1) (closed_dims 0 ds ms) ++ drop (k + 1) ds
closed_dims-more ds ms k items d h e f =
    let l = length-closed_dims 0 ds ms in
    let one : k + 1 ≡ suc k = omega arith in
    let z : 0 + k ≡ k = omega arith in
    let g = f ∙ ap (λ (xs : List Bounds). get_or xs k d) e ∙ get_or-front (closed_dims 0 ds ms) ds k d l h in
    let c = (rw z at (closed_dims-at 0 ds ms k d h)) in
    let n : get_or (closed_dims 0 ds ms) k d ≡ closed_along k ms d = c ∙ ap (λ (b : Bounds). closed_along k ms b) (sym g) in
    let there : closed_along k ms d ≡ get_or (closed_dims 0 ds ms) k (closed_along k ms d) =
    sym (get_or-inside (closed_dims 0 ds ms) k (closed_along k ms d) d (omega (arith, l, h)) ∙ n) in
    rw one (ap (λ (xs : List Bounds). set xs k (closed_along k ms d)) e ∙ set-more (closed_dims 0 ds ms) ds k (closed_along k ms d) l h there)

pub closed_dims-whole : (ds : List Bounds) (ms : List OutMap) (k : ℕ) → k ≡ length ds
    → take k (closed_dims 0 ds ms) ++ drop k ds ≡ closed_dims 0 ds ms
closed_dims-whole ds ms k e =
    let l = length-closed_dims 0 ds ms in
    let t = ap (λ (n : ℕ). take n (closed_dims 0 ds ms)) (e ∙ sym l) ∙ take-length (closed_dims 0 ds ms) in
    let d = ap (λ (n : ℕ). drop n ds) e ∙ drop-length ds in
    ap (λ (xs : List Bounds). xs ++ drop k ds) t ∙ ap (λ (xs : List Bounds). closed_dims 0 ds ms ++ xs) d ∙ append-nil (closed_dims 0 ds ms)

-- a size that fits a dimension fits it made explicit
fits_dim-closed : (d : Bounds) (n : ℕ) → fits_dim d n ≡ true → fits_dim (closed d) n ≡ true
fits_dim-closed d n e = told (n == 1) refl e
  where
    told : (b : Bool) → (n == 1) ≡ b → (b || (is_fixed d && n == size_of d)) ≡ true → fits_dim (closed d) n ≡ true
    told true f g = rw f refl
    told false f g =
        let p = both (is_fixed d) (n == size_of d) g in
        let q = both (not d.lo_implicit && not d.hi_implicit && is_index d.lo) (is_index d.hi) p.0 in
        let r = both (not d.lo_implicit && not d.hi_implicit) (is_index d.lo) q.0 in
        rw (f, r.1, q.1, p.1) refl

fits_dim-closed_along : (k : ℕ) (ms : List OutMap) (d : Bounds) (n : ℕ) → fits_dim d n ≡ true → fits_dim (closed_along k ms d) n ≡ true
fits_dim-closed_along k ms d n e = told (list_any (has_array_along k) ms)
  where
    told : (b : Bool) → fits_dim (cond b (closed d) d) n ≡ true
    told true = fits_dim-closed d n e
    told false = e

fits-closed : (k : ℕ) (ds : List Bounds) (ms : List OutMap) (ns : List ℕ) → list_all (λ p. fits_dim p.0 p.1) (zip ds ns) ≡ true
    → list_all (λ p. fits_dim p.0 p.1) (zip (closed_dims k ds ms) ns) ≡ true
fits-closed k [] ms ns e = refl
fits-closed k (d ∷ ds) ms [] e = refl
fits-closed k (d ∷ ds) ms (n ∷ ns) e =
    let p = both (fits_dim d n) (list_all (λ p. fits_dim p.0 p.1) (zip ds ns)) e in
    both_true (fits_dim (closed_along k ms d) n) (list_all (λ p. fits_dim p.0 p.1) (zip (closed_dims (k + 1) ds ms) ns))
    (fits_dim-closed_along k ms d n p.0) (fits-closed (k + 1) ds ms ns p.1)

-- a map goes from the dimensions made explicit
is_map-closed : (ds : List Bounds) (ms : List OutMap) (m : OutMap) → is_map ds m ≡ true → is_map (closed_dims 0 ds ms) m ≡ true
is_map-closed ds ms (Constant o) e = refl
is_map-closed ds ms (Strided o s dim) e = rw (length-closed_dims 0 ds ms) e
is_map-closed ds ms (Indexed o s ns entries) e =
    let p = both (fits ds ns) (are_entries ns entries) e in
    let q = both (length ds == length ns) (list_all (λ p. fits_dim p.0 p.1) (zip ds ns)) p.0 in
    both_true (fits (closed_dims 0 ds ms) ns) (are_entries ns entries)
    (both_true (length (closed_dims 0 ds ms) == length ns) (list_all (λ p. fits_dim p.0 p.1) (zip (closed_dims 0 ds ms) ns)) (rw (length-closed_dims 0 ds ms) q.0) (fits-closed 0 ds ms ns q.1)) p.1

is_map-strided_over : (ds : List Bounds) (o s : ℤ) (m : OutMap) → is_map ds m ≡ true → is_map ds (strided_over o s m) ≡ true
is_map-strided_over ds o s (Constant p) e = refl
is_map-strided_over ds o s (Strided p q dim) e = e
is_map-strided_over ds o s (Indexed p q ns entries) e = e

-- the sizes of an array that is read fit the dimensions made explicit
fits-read : (ns : List ℕ) (gs : List OutMap) (ms : List OutMap) (k : ℕ) (ds : List Bounds)
    → ((i : ℕ) → i < length ds → is_read_along ns gs (k + i) ≡ true → is_finite (get_or ds i point) ≡ true)
    → ((i : ℕ) → not (get_or (map size_of (read_dims k ds ns gs)) i 1 == 1) ≡ true → list_any (has_array_along (k + i)) ms ≡ true)
    → list_all (λ p. fits_dim p.0 p.1) (zip (closed_dims k ds ms) (map size_of (read_dims k ds ns gs))) ≡ true
fits-read ns gs ms k [] f h = refl
fits-read ns gs ms k (d ∷ ds) f h =
    both_true (fits_dim (closed_along k ms d) (size_of (read_along k ns gs d)))
    (list_all (λ p. fits_dim p.0 p.1) (zip (closed_dims (k + 1) ds ms) (map size_of (read_dims (k + 1) ds ns gs))))
    (told (is_read_along ns gs k) refl (λ u. let z : k + 0 ≡ k = omega arith in rw z at (h 0 u)))
    (fits-read ns gs ms (k + 1) ds
    (λ i b r. f (suc i) (omega (arith, b)) (let z : k + suc i ≡ (k + 1) + i = omega arith in rw z r))
    (λ i u. let z : (k + 1) + i ≡ k + suc i = omega arith in rw z (h (suc i) u)))
  where
    sized : (b : Bool) → (size_of d == 1) ≡ b → is_finite d ≡ true → (not b ≡ true → list_any (has_array_along k) ms ≡ true)
        → fits_dim (closed_along k ms d) (size_of d) ≡ true
    sized true e g u = rw e refl
    sized false e g u =
        let p = both (is_index d.lo) (is_index d.hi) g in
        let same : (size_of d == size_of d) ≡ true = grind (arith, nat_tests) in
        rw (e, u refl, p.0, p.1, same) refl

    told : (b : Bool) → is_read_along ns gs k ≡ b → (not (size_of (cond b d point) == 1) ≡ true → list_any (has_array_along k) ms ≡ true)
        → fits_dim (closed_along k ms d) (size_of (cond b d point)) ≡ true
    told true e u =
        let g = f 0 (omega arith) (let z : k + 0 ≡ k = omega arith in rw z e) in
        sized (size_of d == 1) refl g u
    told false e u = refl

length-read_dims : (ns : List ℕ) (gs : List OutMap) (k : ℕ) (ds : List Bounds) → length (read_dims k ds ns gs) ≡ length ds
length-read_dims ns gs k [] = refl
length-read_dims ns gs k (d ∷ ds) = ap suc (length-read_dims ns gs (k + 1) ds)

-- the entries that are read are indices
index-at : (entries : List ℤ) (k : ℕ) → list_all is_index entries ≡ true → is_index (get_or entries k (pos 0)) ≡ true
index-at [] k e = refl
index-at (x ∷ entries) zero e = (both (is_index x) (list_all is_index entries) e).0
index-at (x ∷ entries) (suc k) e = index-at entries k ((both (is_index x) (list_all is_index entries) e).1)

all-mapped : (f : List ℤ → ℤ) → ((xs : List ℤ) → is_index (f xs) ≡ true) → (cells : List (List ℤ)) → list_all is_index (map f cells) ≡ true
all-mapped f h [] = refl
all-mapped f h (xs ∷ cells) = both_true (is_index (f xs)) (list_all is_index (map f cells)) (h xs) (all-mapped f h cells)

not-false : (b : Bool) → not b ≡ false → b ≡ true
not-false true e = refl
not-false false e = cc

are_entries-read : (os ds : List Bounds) (ns : List ℕ) (entries : List ℤ) (gs : List OutMap) → are_entries ns entries ≡ true
    → not (nat_le (cell_count (read_sizes ds ns gs)) 4194304) ≡ false → are_entries (read_sizes ds ns gs) (read_entries os ns entries ds gs) ≡ true
are_entries-read os ds ns entries gs e f =
    let p = both (nat_le (cell_count ns) 4194304 && (length entries == cell_count ns)) (list_all is_index entries) e in
    let n : length (read_entries os ns entries ds gs) ≡ cell_count (read_sizes ds ns gs) =
    length-map (cells_of (read_dims 0 ds ns gs)) (entry_over os ns entries ds gs) ∙ length-cells_of (read_dims 0 ds ns gs) in
    let same : (length (read_entries os ns entries ds gs) == cell_count (read_sizes ds ns gs)) ≡ true = grind (arith, nat_tests, n) in
    both_true (nat_le (cell_count (read_sizes ds ns gs)) 4194304 && (length (read_entries os ns entries ds gs) == cell_count (read_sizes ds ns gs))) (list_all is_index (read_entries os ns entries ds gs))
    (both_true (nat_le (cell_count (read_sizes ds ns gs)) 4194304) (length (read_entries os ns entries ds gs) == cell_count (read_sizes ds ns gs)) (not-false _ f) same)
    (all-mapped (entry_over os ns entries ds gs) (λ xs. index-at entries _ p.1) (cells_of (read_dims 0 ds ns gs)))

-- what the lemmas on one map take of the two transforms
pub record AreJoining (os ds : List Bounds) (gs : List OutMap) : Type 0 where
  pub rank : length gs ≡ length os
  pub fit : list_all (is_map ds) gs ≡ true
  pub inside : first_outside_by ds os gs ≡ None
  pub bounds : list_all are_bounds ds ≡ true

-- a composed map goes from the dimensions made explicit
is_map-composed : (os ds : List Bounds) (gs ms : List OutMap) (m : OutMap) → AreJoining os ds gs → is_map os m ≡ true → is_too_large ds gs m ≡ false
    → ((i : ℕ) → has_array_along i (composed_map os ds gs m) ≡ true → list_any (has_array_along i) ms ≡ true)
    → is_map (closed_dims 0 ds ms) (composed_map os ds gs m) ≡ true
is_map-composed os ds gs ms (Constant o) a e f h = refl
is_map-composed os ds gs ms (Strided o s from) a e f h =
    let below : from < length os = grind (arith, nat_tests, e) in
    let b : from < length gs = omega (arith, below, a.rank) in
    let g = all-at (is_map ds) gs from (get_or gs from nowhere) a.fit b (get_or-inside gs from nowhere (get_or gs from nowhere) b) in
    is_map-closed ds ms (strided_over o s (get_or gs from nowhere)) (is_map-strided_over ds o s (get_or gs from nowhere) g)
is_map-composed os ds gs ms (Indexed o s ns entries) a e f h =
    let p = both (fits os ns) (are_entries ns entries) e in
    let n : length (closed_dims 0 ds ms) ≡ length (read_sizes ds ns gs) =
    length-closed_dims 0 ds ms ∙ sym (length-map (read_dims 0 ds ns gs) size_of ∙ length-read_dims ns gs 0 ds) in
    let same : (length (closed_dims 0 ds ms) == length (read_sizes ds ns gs)) ≡ true = grind (arith, nat_tests, n) in
    both_true (fits (closed_dims 0 ds ms) (read_sizes ds ns gs)) (are_entries (read_sizes ds ns gs) (read_entries os ns entries ds gs))
    (both_true (length (closed_dims 0 ds ms) == length (read_sizes ds ns gs)) (list_all (λ p. fits_dim p.0 p.1) (zip (closed_dims 0 ds ms) (read_sizes ds ns gs))) same
    (fits-read ns gs ms 0 ds
    (λ i b r. finite-read-at ds os o s ns entries gs a.rank a.fit a.inside a.bounds e i b (let z : 0 + i ≡ i = omega arith in rw z at r))
    (λ i u. let z : 0 + i ≡ i = omega arith in rw z (h i u))))
    (are_entries-read os ds ns entries gs p.1 f)

all_composed : (os ds : List Bounds) (gs ms ns : List OutMap) (j : ℕ) → AreJoining os ds gs → list_all (is_map os) ns ≡ true
    → position_from (is_too_large ds gs) j ns ≡ None
    → ((i : ℕ) → list_any (has_array_along i) (map (composed_map os ds gs) ns) ≡ true → list_any (has_array_along i) ms ≡ true)
    → list_all (is_map (closed_dims 0 ds ms)) (map (composed_map os ds gs) ns) ≡ true
all_composed os ds gs ms [] j a e f h = refl
all_composed os ds gs ms (n ∷ ns) j a e f h =
    let p = both (is_map os n) (list_all (is_map os) ns) e in
    let q = fails (is_too_large ds gs) n j ns f in
    both_true (is_map (closed_dims 0 ds ms) (composed_map os ds gs n)) (list_all (is_map (closed_dims 0 ds ms)) (map (composed_map os ds gs) ns))
    (is_map-composed os ds gs ms n a p.0 q.0 (λ i u. h i (rw u refl)))
    (all_composed os ds gs ms ns (j + 1) a p.1 q.1 (λ i u. h i (more i (has_array_along i (composed_map os ds gs n)) u)))
  where
    more : (i : ℕ) (b : Bool) → list_any (has_array_along i) (map (composed_map os ds gs) ns) ≡ true → (b || list_any (has_array_along i) (map (composed_map os ds gs) ns)) ≡ true
    more i true u = refl
    more i false u = u

-- strides stay other than 0
nonzero : (s : ℤ) → not (int_eq s (pos 0)) ≡ true → s ≢ pos 0
nonzero s e = λ f. let g = (Decides-int_eq s (pos 0)).1 f in cc ((rw g at e))

plain-product : (s q : ℤ) → not (int_eq s (pos 0)) ≡ true → not (int_eq q (pos 0)) ≡ true → not (int_eq (s *ℤ q) (pos 0)) ≡ true
plain-product s q e f = told (int_eq (s *ℤ q) (pos 0)) refl
  where
    told : (b : Bool) → int_eq (s *ℤ q) (pos 0) ≡ b → not b ≡ true
    told true g = absurd (product_nonzero s q (nonzero s e) (nonzero q f) ((Decides-int_eq (s *ℤ q) (pos 0)).0 g))
    told false g = refl

is_plain-strided_over : (o s : ℤ) (m : OutMap) → not (int_eq s (pos 0)) ≡ true → is_plain m ≡ true → is_plain (strided_over o s m) ≡ true
is_plain-strided_over o s (Constant p) e f = refl
is_plain-strided_over o s (Strided p q dim) e f = plain-product s q e f
is_plain-strided_over o s (Indexed p q ns entries) e f = plain-product s q e f

plain-at : (gs : List OutMap) (k : ℕ) → list_all is_plain gs ≡ true → is_plain (get_or gs k nowhere) ≡ true
plain-at [] k e = refl
plain-at (g ∷ gs) zero e = (both (is_plain g) (list_all is_plain gs) e).0
plain-at (g ∷ gs) (suc k) e = plain-at gs k ((both (is_plain g) (list_all is_plain gs) e).1)

is_plain-composed : (os ds : List Bounds) (gs : List OutMap) (m : OutMap) → list_all is_plain gs ≡ true → is_plain m ≡ true → is_plain (composed_map os ds gs m) ≡ true
is_plain-composed os ds gs (Constant o) e f = refl
is_plain-composed os ds gs (Strided o s from) e f = is_plain-strided_over o s (get_or gs from nowhere) f (plain-at gs from e)
is_plain-composed os ds gs (Indexed o s ns entries) e f = f

all_plain : (os ds : List Bounds) (gs ms : List OutMap) → list_all is_plain gs ≡ true → list_all is_plain ms ≡ true
    → list_all is_plain (map (composed_map os ds gs) ms) ≡ true
all_plain os ds gs [] e f = refl
all_plain os ds gs (m ∷ ms) e f =
    let p = both (is_plain m) (list_all is_plain ms) f in
    both_true (is_plain (composed_map os ds gs m)) (list_all is_plain (map (composed_map os ds gs) ms)) (is_plain-composed os ds gs m e p.0) (all_plain os ds gs ms e p.1)

-- explicit bounds are bounds
bounds-closed_along : (k : ℕ) (ms : List OutMap) (d : Bounds) → are_bounds (closed_along k ms d) ≡ are_bounds d
bounds-closed_along k ms d = told (list_any (has_array_along k) ms)
  where
    told : (b : Bool) → are_bounds (cond b (closed d) d) ≡ are_bounds d
    told true = refl
    told false = refl

bounds-closed_dims : (k : ℕ) (ds : List Bounds) (ms : List OutMap) → list_all are_bounds ds ≡ true → list_all are_bounds (closed_dims k ds ms) ≡ true
bounds-closed_dims k [] ms e = refl
bounds-closed_dims k (d ∷ ds) ms e =
    let p = both (are_bounds d) (list_all are_bounds ds) e in
    both_true (are_bounds (closed_along k ms d)) (list_all are_bounds (closed_dims (k + 1) ds ms)) (bounds-closed_along k ms d ∙ p.0) (bounds-closed_dims (k + 1) ds ms p.1)

-- the composition is a transform
pub IsTransform-joined : (outer inner : DomainAndMaps) (ds : List Bounds) → IsTransform outer → IsTransform inner → AreJoining outer.domain.dims ds inner.maps
    → length ds ≡ length inner.domain.dims → position_from (is_too_large ds inner.maps) 0 outer.maps ≡ None → IsTransform (joined outer (on_dims inner ds))
IsTransform-joined outer inner ds t u a l f =
    let maps : List OutMap = map (composed_map outer.domain.dims ds inner.maps) outer.maps in
    let n : length (closed_dims 0 ds maps) ≡ length inner.domain.dims = length-closed_dims 0 ds maps ∙ l in
    let m : length maps ≡ length outer.maps = length-map outer.maps (composed_map outer.domain.dims ds inner.maps) in
    let p = both (nat_le (length outer.domain.dims) 32 && (length outer.domain.labels == length outer.domain.dims)) (nat_le (length outer.maps) 32) t.ranks in
    let q = both (nat_le (length inner.domain.dims) 32 && (length inner.domain.labels == length inner.domain.dims)) (nat_le (length inner.maps) 32) u.ranks in
    record {
      ranks = rw (n, m) (both_true (nat_le (length inner.domain.dims) 32 && (length inner.domain.labels == length inner.domain.dims)) (nat_le (length outer.maps) 32) q.0 p.1);
      labels = u.labels;
      maps = all_composed outer.domain.dims ds inner.maps maps outer.maps 0 a t.maps f (λ i e. e);
      plain = all_plain outer.domain.dims ds inner.maps outer.maps u.plain t.plain;
      bounds = bounds-closed_dims 0 ds maps a.bounds;
    }

-- the same of parts that are those
pub IsTransform-made : (outer inner : DomainAndMaps) (ds dims : List Bounds) (labels : List (List ℕ)) (maps : List OutMap) → IsTransform outer → IsTransform inner
    → AreJoining outer.domain.dims ds inner.maps → length ds ≡ length inner.domain.dims → position_from (is_too_large ds inner.maps) 0 outer.maps ≡ None
    → maps ≡ map (composed_map outer.domain.dims ds inner.maps) outer.maps → dims ≡ closed_dims 0 ds maps → labels ≡ inner.domain.labels
    → IsTransform (record { domain = record { dims = dims; labels = labels }; maps = maps })
IsTransform-made outer inner ds dims labels maps t u a l f p q r = rw (q, p, r) (IsTransform-joined outer inner ds t u a l f)

-- the composition where tightening answers dimensions
pub composed-passed : (outer inner : DomainAndMaps) (ds : List Bounds) (k : ℕ) → tightened inner.domain.dims outer.domain.dims inner.maps ≡ Ok ds
    → Some k ≡ position_from (passes_word inner.maps) 0 outer.maps → composed outer inner ≡ Err (Overflow k)
composed-passed outer inner ds k e f = rw (e, sym f) refl

pub composed-large : (outer inner : DomainAndMaps) (ds : List Bounds) (k : ℕ) → tightened inner.domain.dims outer.domain.dims inner.maps ≡ Ok ds
    → position_from (passes_word inner.maps) 0 outer.maps ≡ None → Some k ≡ position_from (is_too_large ds inner.maps) 0 outer.maps
    → composed outer inner ≡ Err (TooLarge k)
composed-large outer inner ds k e f g = rw (e, f, sym g) refl

-- the tightened dimensions of lists that are those
pub tightened-at : (ds is os ps : List Bounds) (gs hs : List OutMap) (answer : List Bounds) → ds ≡ is → os ≡ ps → gs ≡ hs
    → tightened ds os gs ≡ Ok answer → tightened is ps hs ≡ Ok answer
tightened-at ds is os ps gs hs answer e f g h =
    sym (ap (λ (x : List Bounds). tightened x os gs) e ∙ ap (λ (x : List Bounds). tightened is x gs) f ∙ ap (λ (x : List OutMap). tightened is ps x) g) ∙ h
