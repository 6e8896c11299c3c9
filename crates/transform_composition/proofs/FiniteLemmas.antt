-- Maps whose values lie inside: where they are known, and which dimensions are finite.
use Rattle.std.proofs.Common.{◌≡◌, ◌∙◌, zero, suc, ℕ, ◌+◌, ◌<◌, ◌==◌, Bool, true, false, cond, not, ◌&&◌, ◌||◌, List, [], ◌∷◌, length, map, get_or, refl, ap, arith, ℤ, pos, negsuc, ◌+ℤ◌, ◌*ℤ◌, ◌≤ℤ◌, int_le, None}
use Rattle.std.proofs.lemmas.Int.{ints}
use Rattle.std.proofs.lemmas.Bool.Decides.{nat_tests}
use Rattle.std.specs.List.{list_all, zip}
use Rattle.std.specs.Int.RustNames.{int_lt}
use Rattle.index_transform.specs.Places.{cell_count}
use Rattle.index_transform.specs.Bounds.{Bounds, is_index}
use Rattle.index_transform.specs.Members.{effective_lo, effective_hi}
use Rattle.index_transform.specs.declared.map.OutMap.{OutMap}
use Rattle.index_transform.specs.declared.map.OutMap.TheVariants.{Constant, Strided, Indexed}
use Rattle.index_transform.specs.Maps.{size_of, is_fixed, fits_dim, fits, are_entries, is_map}
use Rattle.index_transform.specs.Cells.{is_finite}
use Rattle.transform_composition.specs.Tightening.{is_ordered, are_bounds}
use Rattle.transform_composition.specs.Inside.{goes_down, end_inside, are_ends_inside, is_inside_by, first_outside_by}
use Rattle.index_transform.specs.Values.{reaches_dim, reaches, has_value, is_effective, entry_place, map_value}
use Rattle.index_transform.specs.Walks.{IsCell}
use Rattle.transform_composition.specs.Reading.{depends_on, is_read_along, read_along, read_dims, point, can_read}
use Rattle.index_transform.proofs.Laws.{get_or-inside, entry_place-below, reaches_between, reaches_dim-fits, all-at, list_all-position_from, between_up, between_down}
use Rattle.transform_composition.proofs.ReadLemmas.{read_cell-length, read_cell-between}
use Rattle.index_transform.proofs.Laws.{both, both_true}

-- an index between finite bounds
pub record IsIn (d : Bounds) (x : ℤ) : Type 0 where
  pub finite : is_finite d ≡ true
  pub above : d.lo ≤ℤ x
  pub below : x ≤ℤ d.hi

-- the index lies in each dimension on which the map depends
abbrev pub IsWithinFor : List Bounds → List ℤ → OutMap → Type 0
IsWithinFor ds xs m = (i : ℕ) → i < length ds → depends_on i m ≡ true → IsIn (get_or ds i point) (get_or xs i (pos 0))

reaches_dim-in : (d : Bounds) (n : ℕ) (x : ℤ) → fits_dim d n ≡ true → ((n == 1) ≡ false → IsIn d x) → reaches_dim d n x ≡ true
reaches_dim-in d n x f h = told (n == 1) refl f
  where
    told : (b : Bool) → (n == 1) ≡ b → (b || (is_fixed d && n == size_of d)) ≡ true → reaches_dim d n x ≡ true
    told true e g = rw e refl
    told false e g =
        let i = h e in
        let size : n ≡ size_of d = grind (arith, nat_tests, (both (is_fixed d) (n == size_of d) g).1) in
        let l : int_le d.lo x ≡ true = grind (arith, ints, i.above) in
        let m : int_le x d.hi ≡ true = grind (arith, ints, i.below) in
        reaches_between d n x e size l m

pub reaches-in : (ds : List Bounds) (ns : List ℕ) (xs : List ℤ) → length ds ≡ length ns → length xs ≡ length ds
    → list_all (λ p. fits_dim p.0 p.1) (zip ds ns) ≡ true
    → ((i : ℕ) → i < length ds → not (get_or ns i 1 == 1) ≡ true → IsIn (get_or ds i point) (get_or xs i (pos 0))) → reaches ds ns xs ≡ true
reaches-in [] [] [] l m f h = refl
reaches-in [] [] (x ∷ xs) l m f h = absurd (omega (arith, m))
reaches-in [] (n ∷ ns) xs l m f h = absurd (omega (arith, l))
reaches-in (d ∷ ds) [] xs l m f h = absurd (omega (arith, l))
reaches-in (d ∷ ds) (n ∷ ns) [] l m f h = absurd (omega (arith, m))
reaches-in (d ∷ ds) (n ∷ ns) (x ∷ xs) l m f h =
    let p = both (fits_dim d n) (list_all (λ p. fits_dim p.0 p.1) (zip ds ns)) f in
    both_true (reaches_dim d n x) (reaches ds ns xs)
    (reaches_dim-in d n x p.0 (λ e. h 0 (omega arith) (rw e refl)))
    (reaches-in ds ns xs (omega (arith, l)) (omega (arith, m)) p.1 (λ i b e. h (suc i) (omega (arith, b)) e))

-- an array is read inside where the map is known
reaches-map : (ds : List Bounds) (xs : List ℤ) (o s : ℤ) (ns : List ℕ) (entries : List ℤ) → length xs ≡ length ds
    → is_map ds (Indexed o s ns entries) ≡ true → IsWithinFor ds xs (Indexed o s ns entries)
    → (reaches ds ns xs ≡ true) × (are_entries ns entries ≡ true)
reaches-map ds xs o s ns entries l e h =
    let p = both (fits ds ns) (are_entries ns entries) e in
    let q = both (length ds == length ns) (list_all (λ p. fits_dim p.0 p.1) (zip ds ns)) p.0 in
    let same : length ds ≡ length ns = grind (arith, nat_tests, q.0) in
    (reaches-in ds ns xs same l q.1 h, p.1)

pub has_value-in : (ds : List Bounds) (xs : List ℤ) (m : OutMap) → length xs ≡ length ds → is_map ds m ≡ true → IsWithinFor ds xs m
    → has_value ds xs m ≡ true
has_value-in ds xs (Constant o) l e h = refl
has_value-in ds xs (Strided o s dim) l e h = rw l e
has_value-in ds xs (Indexed o s ns entries) l e h =
    let p = reaches-map ds xs o s ns entries l e h in
    both_true (reaches ds ns xs) (are_entries ns entries) p.0 p.1

-- a number between two effective members is one
is_effective-between : (d : Bounds) (a y b : ℤ) → is_effective d a ≡ true → is_effective d b ≡ true → a ≤ℤ y → y ≤ℤ b → is_effective d y ≡ true
is_effective-between d a y b e f l m =
    let p = both (is_index a && (d.lo_implicit || int_le d.lo a)) (d.hi_implicit || int_le a d.hi) e in
    let q = both (is_index a) (d.lo_implicit || int_le d.lo a) p.0 in
    let r = both (is_index b && (d.lo_implicit || int_le d.lo b)) (d.hi_implicit || int_le b d.hi) f in
    let s = both (is_index b) (d.lo_implicit || int_le d.lo b) r.0 in
    let i : is_index y ≡ true = grind (arith, ints, q.0, s.0, l, m) in
    both_true (is_index y && (d.lo_implicit || int_le d.lo y)) (d.hi_implicit || int_le y d.hi)
    (both_true (is_index y) (d.lo_implicit || int_le d.lo y) i (low d.lo_implicit q.1)) (high d.hi_implicit r.1)
  where
    low : (t : Bool) → (t || int_le d.lo a) ≡ true → (t || int_le d.lo y) ≡ true
    low true g = refl
    low false g = grind (arith, ints, g, l)

    high : (t : Bool) → (t || int_le b d.hi) ≡ true → (t || int_le y d.hi) ≡ true
    high true g = refl
    high false g = grind (arith, ints, g, m)

-- what the ends say of an interval that has an index
ends_of : (d outer : Bounds) (o s x : ℤ) → IsIn d x → are_ends_inside d outer o s ≡ true
    → (is_effective outer (o +ℤ s *ℤ d.lo) ≡ true) × (is_effective outer (o +ℤ s *ℤ d.hi) ≡ true)
ends_of d outer o s x i e =
    let c : int_lt d.hi d.lo ≡ false = grind (arith, ints, i.above, i.below) in
    let f = both (is_index d.lo) (is_index d.hi) i.finite in
    let g = (rw (c, f.0, f.1) at e) in
    both (is_effective outer (o +ℤ s *ℤ d.lo)) (is_effective outer (o +ℤ s *ℤ d.hi)) g

strided-inside : (d outer : Bounds) (o s x : ℤ) → IsIn d x → are_ends_inside d outer o s ≡ true → is_effective outer (o +ℤ s *ℤ x) ≡ true
strided-inside d outer o (pos n) x i e =
    let p = ends_of d outer o (pos n) x i e in
    let b = between_up o (pos n) d.lo x d.hi (omega (arith, ints)) i.above i.below in
    is_effective-between outer (o +ℤ pos n *ℤ d.lo) (o +ℤ pos n *ℤ x) (o +ℤ pos n *ℤ d.hi) p.0 p.1 b.0 b.1
strided-inside d outer o (negsuc n) x i e =
    let p = ends_of d outer o (negsuc n) x i e in
    let b = between_down o n d.lo x d.hi i.above i.below in
    is_effective-between outer (o +ℤ negsuc n *ℤ d.hi) (o +ℤ negsuc n *ℤ x) (o +ℤ negsuc n *ℤ d.lo) p.1 p.0 b.0 b.1

-- a map that lies inside has a value inside
pub value-inside : (ds : List Bounds) (xs : List ℤ) (outer : Bounds) (m : OutMap) → length xs ≡ length ds → is_map ds m ≡ true
    → is_inside_by ds outer m ≡ true → IsWithinFor ds xs m → is_effective outer (map_value ds xs m) ≡ true
value-inside ds xs outer (Constant o) l e f h = f
value-inside ds xs outer (Strided o s dim) l e f h =
    let below : dim < length ds = grind (arith, nat_tests, e) in
    let here : (dim == dim) ≡ true = grind (arith, nat_tests) in
    let i = h dim below here in
    let same = get_or-inside ds dim outer point below in
    strided-inside (get_or ds dim point) outer o s (get_or xs dim (pos 0)) i ((rw same at f))
value-inside ds xs outer (Indexed o s ns entries) l e f h =
    let p = reaches-map ds xs o s ns entries l e h in
    let q = entry_place-below ds ns xs p.0 in
    let r = both (Rattle.std.specs.Prelude.nat_le (cell_count ns) 4194304 && (length entries == cell_count ns)) (list_all is_index entries) p.1 in
    let t = both (Rattle.std.specs.Prelude.nat_le (cell_count ns) 4194304) (length entries == cell_count ns) r.0 in
    let below : entry_place ds ns xs < length entries = grind (arith, nat_tests, t.1, q) in
    all-at (λ x. is_effective outer (o +ℤ s *ℤ x)) entries (entry_place ds ns xs) (get_or entries (entry_place ds ns xs) (pos 0)) f below
    (get_or-inside entries (entry_place ds ns xs) (pos 0) (get_or entries (entry_place ds ns xs) (pos 0)) below)

-- an array can be read at a cell of the dimensions along which it is read
head_along : (b r : Bool) → b ≡ true → (b || r) ≡ true
head_along b r e = rw e refl

tail_along : (b r : Bool) → r ≡ true → (b || r) ≡ true
tail_along true r e = refl
tail_along false r e = e

pub read_head : (n : ℕ) (ns : List ℕ) (m : OutMap) (ms : List OutMap) (i : ℕ) → (n == 1) ≡ false → depends_on i m ≡ true → is_read_along (n ∷ ns) (m ∷ ms) i ≡ true
read_head n ns m ms i e f = head_along (not (n == 1) && depends_on i m) (is_read_along ns ms i) (rw (e, f) refl)

pub read_tail : (n : ℕ) (ns : List ℕ) (m : OutMap) (ms : List OutMap) (i : ℕ) → is_read_along ns ms i ≡ true → is_read_along (n ∷ ns) (m ∷ ms) i ≡ true
read_tail n ns m ms i e = tail_along (not (n == 1) && depends_on i m) (is_read_along ns ms i) e

abbrev pub IsWithinRead : List Bounds → List ℤ → List ℕ → List OutMap → Type 0
IsWithinRead ds xs ns ms = (i : ℕ) → i < length ds → is_read_along ns ms i ≡ true → IsIn (get_or ds i point) (get_or xs i (pos 0))

pub known-read : (ds : List Bounds) (xs : List ℤ) (ns : List ℕ) (ms : List OutMap) → length xs ≡ length ds → list_all (is_map ds) ms ≡ true
    → IsWithinRead ds xs ns ms → list_all (λ p. p.0 == 1 || has_value ds xs p.1) (zip ns ms) ≡ true
known-read ds xs [] ms l e h = refl
known-read ds xs (n ∷ ns) [] l e h = refl
known-read ds xs (n ∷ ns) (m ∷ ms) l e h =
    let p = both (is_map ds m) (list_all (is_map ds) ms) e in
    both_true (n == 1 || has_value ds xs m) (list_all (λ p. p.0 == 1 || has_value ds xs p.1) (zip ns ms))
    (told (n == 1) refl p.0) (known-read ds xs ns ms l p.1 (λ i b r. h i b (read_tail n ns m ms i r)))
  where
    told : (b : Bool) → (n == 1) ≡ b → is_map ds m ≡ true → (b || has_value ds xs m) ≡ true
    told true f g = refl
    told false f g = has_value-in ds xs m l g (λ i b r. h i b (read_head n ns m ms i f r))

pub reaches-read : (ds : List Bounds) (xs : List ℤ) (os : List Bounds) (ns : List ℕ) (ms : List OutMap) → length xs ≡ length ds
    → list_all (is_map ds) ms ≡ true → length os ≡ length ns → length ms ≡ length os
    → list_all (λ p. fits_dim p.0 p.1) (zip os ns) ≡ true → list_all (λ p. is_inside_by ds p.0 p.1) (zip os ms) ≡ true
    → IsWithinRead ds xs ns ms → reaches os ns (map (map_value ds xs) ms) ≡ true
reaches-read ds xs [] [] [] l e s t f g h = refl
reaches-read ds xs [] [] (m ∷ ms) l e s t f g h = absurd (omega (arith, t))
reaches-read ds xs [] (n ∷ ns) ms l e s t f g h = absurd (omega (arith, s))
reaches-read ds xs (o ∷ os) [] ms l e s t f g h = absurd (omega (arith, s))
reaches-read ds xs (o ∷ os) (n ∷ ns) [] l e s t f g h = absurd (omega (arith, t))
reaches-read ds xs (o ∷ os) (n ∷ ns) (m ∷ ms) l e s t f g h =
    let p = both (is_map ds m) (list_all (is_map ds) ms) e in
    let q = both (fits_dim o n) (list_all (λ p. fits_dim p.0 p.1) (zip os ns)) f in
    let r = both (is_inside_by ds o m) (list_all (λ p. is_inside_by ds p.0 p.1) (zip os ms)) g in
    both_true (reaches_dim o n (map_value ds xs m)) (reaches os ns (map (map_value ds xs) ms))
    (told (n == 1) refl p.0 q.0 r.0)
    (reaches-read ds xs os ns ms l p.1 (omega (arith, s)) (omega (arith, t)) q.1 r.1 (λ i b u. h i b (read_tail n ns m ms i u)))
  where
    told : (b : Bool) → (n == 1) ≡ b → is_map ds m ≡ true → fits_dim o n ≡ true → is_inside_by ds o m ≡ true → reaches_dim o n (map_value ds xs m) ≡ true
    told true a b c d = rw a refl
    told false a b c d =
        reaches_dim-fits o n (map_value ds xs m) c (value-inside ds xs o m l b d (λ i k r. h i k (read_head n ns m ms i a r)))

-- an interval whose ends go into a fixed one is finite
finite-ends : (d outer : Bounds) (o s : ℤ) → are_bounds d ≡ true → is_fixed outer ≡ true → are_ends_inside d outer o s ≡ true → is_finite d ≡ true
finite-ends d outer o s b f e = split (int_lt d.hi d.lo) refl e
  where
    fixed_of : (lo_implicit hi_implicit : Bool) → outer.lo_implicit ≡ lo_implicit → outer.hi_implicit ≡ hi_implicit
        → (not lo_implicit && not hi_implicit && is_index outer.lo && is_index outer.hi) ≡ true
        → (is_index (effective_lo outer) ≡ true) × (is_index (effective_hi outer) ≡ true)
    fixed_of false false p q g =
        let t = both (is_index outer.lo) (is_index outer.hi) g in
        (rw p t.0, rw q t.1)
    fixed_of false true p q g = cc
    fixed_of true hi_implicit p q g = cc

    end : (bound : ℤ) → end_inside outer o s bound ≡ true → is_index bound ≡ true
    end bound g =
        let t = fixed_of outer.lo_implicit outer.hi_implicit refl refl f in
        finite (is_index bound) refl t.0 t.1 g
      where
        finite : (x : Bool) → is_index bound ≡ x → is_index (effective_lo outer) ≡ true → is_index (effective_hi outer) ≡ true
            → cond x (is_effective outer (o +ℤ s *ℤ bound)) (cond (goes_down s bound) (not (is_index (effective_lo outer))) (not (is_index (effective_hi outer)))) ≡ true
            → is_index bound ≡ true
        finite true p u v g = p
        finite false p u v g = way (goes_down s bound) (rw (u, v) at g)
          where
            way : (y : Bool) → cond y (not true) (not true) ≡ true → is_index bound ≡ true
            way true h = cc
            way false h = cc

    split : (x : Bool) → int_lt d.hi d.lo ≡ x → (x || (end_inside outer o s d.lo && end_inside outer o s d.hi)) ≡ true → is_finite d ≡ true
    split true p g = grind (arith, ints, b, p)
    split false p g =
        let t = both (end_inside outer o s d.lo) (end_inside outer o s d.hi) g in
        both_true (is_index d.lo) (is_index d.hi) (end d.lo t.0) (end d.hi t.1)

-- a dimension on which an index array depends is finite
finite-fits : (ds : List Bounds) (ns : List ℕ) (i : ℕ) → length ds ≡ length ns → list_all (λ p. fits_dim p.0 p.1) (zip ds ns) ≡ true
    → i < length ds → not (get_or ns i 1 == 1) ≡ true → is_finite (get_or ds i point) ≡ true
finite-fits [] ns i l f h e = absurd (omega (arith, h))
finite-fits (d ∷ ds) [] i l f h e = absurd (omega (arith, l))
finite-fits (d ∷ ds) (n ∷ ns) zero l f h e =
    told (n == 1) e ((both (fits_dim d n) (list_all (λ p. fits_dim p.0 p.1) (zip ds ns)) f).0)
  where
    told : (b : Bool) → not b ≡ true → (b || (is_fixed d && n == size_of d)) ≡ true → is_finite d ≡ true
    told true g k = cc
    told false g k =
        let p = both (is_fixed d) (n == size_of d) k in
        let q = both (not d.lo_implicit && not d.hi_implicit && is_index d.lo) (is_index d.hi) p.0 in
        let r = both (not d.lo_implicit && not d.hi_implicit) (is_index d.lo) q.0 in
        both_true (is_index d.lo) (is_index d.hi) r.1 q.1
finite-fits (d ∷ ds) (n ∷ ns) (suc i) l f h e =
    finite-fits ds ns i (omega (arith, l)) ((both (fits_dim d n) (list_all (λ p. fits_dim p.0 p.1) (zip ds ns)) f).1) (omega (arith, h)) e

finite-on : (ds : List Bounds) (o : Bounds) (n : ℕ) (m : OutMap) (i : ℕ) → i < length ds → are_bounds (get_or ds i point) ≡ true
    → is_map ds m ≡ true → (n == 1) ≡ false → fits_dim o n ≡ true → is_inside_by ds o m ≡ true → depends_on i m ≡ true → is_finite (get_or ds i point) ≡ true
finite-on ds o n (Constant p) i h b e k f g r = cc
finite-on ds o n (Strided p q dim) i h b e k f g r =
    let same : dim ≡ i = grind (arith, nat_tests, r) in
    let there : get_or ds dim o ≡ get_or ds i point = ap (λ (z : ℕ). get_or ds z o) same ∙ get_or-inside ds i o point h in
    let fixed = (both (is_fixed o) (n == size_of o) ((rw k at f))).0 in
    finite-ends (get_or ds i point) o p q b fixed ((rw there at g))
finite-on ds o n (Indexed p q ns entries) i h b e k f g r =
    let u = both (fits ds ns) (are_entries ns entries) e in
    let v = both (length ds == length ns) (list_all (λ p. fits_dim p.0 p.1) (zip ds ns)) u.0 in
    finite-fits ds ns i (grind (arith, nat_tests, v.0)) v.1 h r

-- a dimension along which an array is read is finite
pub finite-along : (ds os : List Bounds) (ns : List ℕ) (ms : List OutMap) (i : ℕ) → i < length ds → are_bounds (get_or ds i point) ≡ true
    → list_all (is_map ds) ms ≡ true → length os ≡ length ns → length ms ≡ length os → list_all (λ p. fits_dim p.0 p.1) (zip os ns) ≡ true
    → list_all (λ p. is_inside_by ds p.0 p.1) (zip os ms) ≡ true → is_read_along ns ms i ≡ true → is_finite (get_or ds i point) ≡ true
finite-along ds os [] ms i h b e s t f g r = cc
finite-along ds os (n ∷ ns) [] i h b e s t f g r = cc
finite-along ds [] (n ∷ ns) (m ∷ ms) i h b e s t f g r = absurd (omega (arith, s))
finite-along ds (o ∷ os) (n ∷ ns) (m ∷ ms) i h b e s t f g r =
    let p = both (is_map ds m) (list_all (is_map ds) ms) e in
    let q = both (fits_dim o n) (list_all (λ p. fits_dim p.0 p.1) (zip os ns)) f in
    let u = both (is_inside_by ds o m) (list_all (λ p. is_inside_by ds p.0 p.1) (zip os ms)) g in
    told (n == 1) (depends_on i m) refl refl p.0 q.0 u.0 (λ v. finite-along ds os ns ms i h b p.1 (omega (arith, s)) (omega (arith, t)) q.1 u.1 v) r
  where
    told : (x y : Bool) → (n == 1) ≡ x → depends_on i m ≡ y → is_map ds m ≡ true → fits_dim o n ≡ true → is_inside_by ds o m ≡ true
        → (is_read_along ns ms i ≡ true → is_finite (get_or ds i point) ≡ true)
        → ((not x && y) || is_read_along ns ms i) ≡ true → is_finite (get_or ds i point) ≡ true
    told true y j k a c d w v = w v
    told false false j k a c d w v = w v
    told false true j k a c d w v = finite-on ds o n m i h b a j c d k

-- what holds of a point and of each dimension along which an array is read
pub all-read : (p : Bounds → Bool) (ns : List ℕ) (ms : List OutMap) (k : ℕ) (ds : List Bounds) → p point ≡ true
    → ((i : ℕ) → i < length ds → is_read_along ns ms (k + i) ≡ true → p (get_or ds i point) ≡ true) → list_all p (read_dims k ds ns ms) ≡ true
all-read p ns ms k [] q h = refl
all-read p ns ms k (d ∷ ds) q h =
    both_true (p (read_along k ns ms d)) (list_all p (read_dims (k + 1) ds ns ms))
    (told (is_read_along ns ms k) refl)
    (all-read p ns ms (k + 1) ds q (λ i b r. h (suc i) (omega (arith, b)) (let z : k + suc i ≡ (k + 1) + i = omega arith in rw z r)))
  where
    told : (b : Bool) → is_read_along ns ms k ≡ b → p (cond b d point) ≡ true
    told true e = h 0 (omega arith) (let z : k + 0 ≡ k = omega arith in rw z e)
    told false e = q

-- what an outer array gives, of the dimensions that its transform has
outer-fits : (os : List Bounds) (o s : ℤ) (ns : List ℕ) (entries : List ℤ) → is_map os (Indexed o s ns entries) ≡ true
    → (length os ≡ length ns) × (list_all (λ p. fits_dim p.0 p.1) (zip os ns) ≡ true)
outer-fits os o s ns entries e =
    let p = both (fits os ns) (are_entries ns entries) e in
    let q = both (length os == length ns) (list_all (λ p. fits_dim p.0 p.1) (zip os ns)) p.0 in
    let same : length os ≡ length ns = grind (arith, nat_tests, q.0) in
    (same, q.1)

pub all-inside : (ds os : List Bounds) (ms : List OutMap) → first_outside_by ds os ms ≡ None → list_all (λ p. is_inside_by ds p.0 p.1) (zip os ms) ≡ true
all-inside ds os ms e = list_all-position_from (λ p. is_inside_by ds p.0 p.1) 0 (zip os ms) e

bounds-at : (ds : List Bounds) (i : ℕ) → list_all are_bounds ds ≡ true → i < length ds → are_bounds (get_or ds i point) ≡ true
bounds-at ds i e h = all-at are_bounds ds i (get_or ds i point) e h (get_or-inside ds i point (get_or ds i point) h)

-- a dimension along which an outer array is read is finite
pub finite-read-at : (ds os : List Bounds) (o s : ℤ) (ns : List ℕ) (entries : List ℤ) (ms : List OutMap) → length ms ≡ length os → list_all (is_map ds) ms ≡ true
    → first_outside_by ds os ms ≡ None → list_all are_bounds ds ≡ true → is_map os (Indexed o s ns entries) ≡ true
    → (i : ℕ) → i < length ds → is_read_along ns ms i ≡ true → is_finite (get_or ds i point) ≡ true
finite-read-at ds os o s ns entries ms l e f b m i h r =
    let p = outer-fits os o s ns entries m in
    finite-along ds os ns ms i h (bounds-at ds i b h) e p.0 l p.1 (all-inside ds os ms f) r

pub finite-read : (ds os : List Bounds) (o s : ℤ) (ns : List ℕ) (entries : List ℤ) (ms : List OutMap) → length ms ≡ length os → list_all (is_map ds) ms ≡ true
    → first_outside_by ds os ms ≡ None → list_all are_bounds ds ≡ true → is_map os (Indexed o s ns entries) ≡ true → list_all is_finite (read_dims 0 ds ns ms) ≡ true
finite-read ds os o s ns entries ms l e f b m =
    all-read is_finite ns ms 0 ds refl
    (λ i h r. finite-read-at ds os o s ns entries ms l e f b m i h (let z : 0 + i ≡ i = omega arith in rw z at r))

pub ordered-read : (ds : List Bounds) (ns : List ℕ) (ms : List OutMap) → list_all are_bounds ds ≡ true → list_all is_ordered (read_dims 0 ds ns ms) ≡ true
ordered-read ds ns ms b =
    all-read is_ordered ns ms 0 ds refl (λ i h r. ordered_of (get_or ds i point) (bounds-at ds i b h))
  where
    ordered_of : (d : Bounds) → are_bounds d ≡ true → is_ordered d ≡ true
    ordered_of d e = grind (arith, ints, e)

-- an array can be read at a cell of the dimensions along which it is read
pub can_read-cell : (ds os : List Bounds) (o s : ℤ) (ns : List ℕ) (entries : List ℤ) (ms : List OutMap) (xs : List ℤ) → length ms ≡ length os
    → list_all (is_map ds) ms ≡ true → first_outside_by ds os ms ≡ None → list_all are_bounds ds ≡ true → is_map os (Indexed o s ns entries) ≡ true
    → IsCell (read_dims 0 ds ns ms) xs → can_read os ns ds ms xs ≡ true
can_read-cell ds os o s ns entries ms xs l e f b m c =
    let p = outer-fits os o s ns entries m in
    let n = read_cell-length ns ms 0 ds xs c in
    both_true (list_all (λ p. p.0 == 1 || has_value ds xs p.1) (zip ns ms)) (reaches os ns (map (map_value ds xs) ms))
    (known-read ds xs ns ms n e within) (reaches-read ds xs os ns ms n e p.0 l p.1 (all-inside ds os ms f) within)
  where
    within : IsWithinRead ds xs ns ms
    within = λ i h r.
        let z : 0 + i ≡ i = omega arith in
        let t = read_cell-between ns ms 0 ds xs i point c h (rw z r) in
        record { finite = finite-read-at ds os o s ns entries ms l e f b m i h r; above = t.0; below = t.1 }
