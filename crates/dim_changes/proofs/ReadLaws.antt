-- Index arrays read at cuts: dimensions on which no array depends don't matter.
use Rattle.std.proofs.Common.{◌≡◌, ◌∙◌, ◌⊎◌, inl, inr, zero, suc, ℕ, ◌+◌, ◌<◌, ◌==◌, Bool, true, false, cond, not, ◌&&◌, ◌||◌, List, [], ◌∷◌, length, map, get_or, refl, ap, arith, ℤ, pos, ◌+ℤ◌, ◌*ℤ◌, Option, Some, nat_le}
use Rattle.std.proofs.lemmas.List.FromFn.{get_or-map-range_with_len}
use Rattle.std.proofs.lemmas.Bool.Decides.{nat_tests}
use Rattle.std.specs.List.{list_all, list_any, zip, position_from, range_with_len}
use Rattle.cells.specs.Places.{cell_count}
use Rattle.cells.proofs.Laws.{both, both_false}
use Rattle.index_intervals.specs.Bounds.{Bounds}
use Rattle.transform_composition.specs.declared.OutMap.{OutMap}
use Rattle.transform_composition.specs.declared.OutMap.TheVariants.{Constant, Strided, Indexed}
use Rattle.transform_composition.specs.Cells.{cells_of}
use Rattle.transform_composition.specs.Maps.{size_of, is_fixed, fits_dim, fits, are_entries, is_map}
use Rattle.transform_composition.specs.Values.{map_value, entry_place}
use Rattle.transform_composition.specs.Agreeing.{reads_along}
use Rattle.transform_composition.specs.Composing.{nowhere, strided_over, composed_map, is_too_large}
use Rattle.transform_composition.specs.Reading.{has_array_along, depends_on, is_read_along, point, read_along, read_dims, entry_over}
use Rattle.dim_changes.specs.declared.cut.Cut.{Cut}
use Rattle.dim_changes.proofs.RangeLaws.{map-map}

-- a map from each dimension of its own
abbrev pub own : (ℕ → Cut) → ℕ → OutMap
own f j = Strided (f j).offset (f j).stride j

abbrev pub owns : (ℕ → Cut) → ℕ → List OutMap
owns f n = map (own f) (range_with_len 0 n)

off : (b c d : Bool) → c ≡ false → d ≡ false → ((b && c) || d) ≡ false
off true c d e f = rw (e, f) refl
off false c d e f = f

off_first : (b c d : Bool) → b ≡ true → d ≡ false → ((not b && c) || d) ≡ false
off_first b c d e f = rw (e, f) refl

none_above : (f : ℕ → Cut) (sizes : List ℕ) (k a n : ℕ) → k < a
    → list_any (λ p. not (p.0 == 1) && depends_on k p.1) (zip sizes (map (own f) (range_with_len a n))) ≡ false
none_above f [] k a n h = refl
none_above f (s ∷ sizes) k a zero h = refl
none_above f (s ∷ sizes) k a (suc n) h =
    let e : (a == k) ≡ false = grind (arith, nat_tests) in
    off (not (s == 1)) (a == k) _ e (none_above f sizes k (a + 1) n (omega (arith, h)))

unread-from : (f : ℕ → Cut) (sizes : List ℕ) (a n i k : ℕ) → k ≡ a + i → (get_or sizes i 1 == 1) ≡ true
    → list_any (λ p. not (p.0 == 1) && depends_on k p.1) (zip sizes (map (own f) (range_with_len a n))) ≡ false
unread-from f [] a n i k z e = refl
unread-from f (s ∷ sizes) a zero i k z e = refl
unread-from f (s ∷ sizes) a (suc n) zero k z e = off_first (s == 1) (a == k) _ e (none_above f sizes k (a + 1) n (omega (arith, z)))
unread-from f (s ∷ sizes) a (suc n) (suc i) k z e =
    let apart : (a == k) ≡ false = grind (arith, nat_tests, z) in
    off (not (s == 1)) (a == k) _ apart (unread-from f sizes (a + 1) n i k (omega (arith, z)) e)

-- an array that doesn't depend on a dimension isn't read along it
pub unread : (f : ℕ → Cut) (n k : ℕ) (sizes : List ℕ) → not (get_or sizes k 1 == 1) ≡ false → is_read_along sizes (owns f n) k ≡ false
unread f n k sizes e = unread-from f sizes 0 n k k (omega arith) (turned (get_or sizes k 1 == 1) e)
  where
    turned : (b : Bool) → not b ≡ false → b ≡ true
    turned true e = refl
    turned false e = cc

pub unread-map : (f : ℕ → Cut) (n k : ℕ) (m : OutMap) → has_array_along k m ≡ false → reads_along k (owns f n) m ≡ false
unread-map f n k (Constant o) e = refl
unread-map f n k (Strided o s from) e = refl
unread-map f n k (Indexed o s sizes entries) e = unread f n k sizes e

pub unread-maps : (f : ℕ → Cut) (n k : ℕ) (ms : List OutMap) → list_any (has_array_along k) ms ≡ false → list_any (reads_along k (owns f n)) ms ≡ false
unread-maps f n k [] e = refl
unread-maps f n k (m ∷ ms) e =
    let p = both_false (has_array_along k m) (list_any (has_array_along k) ms) e in
    rw (unread-map f n k m p.0, unread-maps f n k ms p.1) refl

-- a dimension on which an array depends has explicit finite bounds
fixed-fits : (ds : List Bounds) (sizes : List ℕ) (i : ℕ) → length ds ≡ length sizes → list_all (λ p. fits_dim p.0 p.1) (zip ds sizes) ≡ true
    → i < length ds → not (get_or sizes i 1 == 1) ≡ true → is_fixed (get_or ds i point) ≡ true
fixed-fits [] sizes i l f h e = absurd (omega (arith, h))
fixed-fits (d ∷ ds) [] i l f h e = absurd (omega (arith, l))
fixed-fits (d ∷ ds) (s ∷ sizes) zero l f h e = told (s == 1) e ((both (fits_dim d s) (list_all (λ p. fits_dim p.0 p.1) (zip ds sizes)) f).0)
  where
    told : (b : Bool) → not b ≡ true → (b || (is_fixed d && s == size_of d)) ≡ true → is_fixed d ≡ true
    told true g k = cc
    told false g k = (both (is_fixed d) (s == size_of d) k).0
fixed-fits (d ∷ ds) (s ∷ sizes) (suc i) l f h e =
    fixed-fits ds sizes i (omega (arith, l)) ((both (fits_dim d s) (list_all (λ p. fits_dim p.0 p.1) (zip ds sizes)) f).1) (omega (arith, h)) e

fixed-map : (ds : List Bounds) (m : OutMap) (i : ℕ) → is_map ds m ≡ true → i < length ds → has_array_along i m ≡ true → is_fixed (get_or ds i point) ≡ true
fixed-map ds (Constant o) i e h a = cc
fixed-map ds (Strided o s from) i e h a = cc
fixed-map ds (Indexed o s sizes entries) i e h a =
    let u = both (fits ds sizes) (are_entries sizes entries) e in
    let v = both (length ds == length sizes) (list_all (λ p. fits_dim p.0 p.1) (zip ds sizes)) u.0 in
    fixed-fits ds sizes i (grind (arith, nat_tests, v.0)) v.1 h a

pub fixed-maps : (ds : List Bounds) (ms : List OutMap) (i : ℕ) → list_all (is_map ds) ms ≡ true → i < length ds
    → list_any (has_array_along i) ms ≡ true → is_fixed (get_or ds i point) ≡ true
fixed-maps ds [] i e h a = cc
fixed-maps ds (m ∷ ms) i e h a =
    let p = both (is_map ds m) (list_all (is_map ds) ms) e in
    told (has_array_along i m) refl (λ u. fixed-maps ds ms i p.1 h u) p.0 a
  where
    told : (b : Bool) → has_array_along i m ≡ b → (list_any (has_array_along i) ms ≡ true → is_fixed (get_or ds i point) ≡ true)
        → is_map ds m ≡ true → (b || list_any (has_array_along i) ms) ≡ true → is_fixed (get_or ds i point) ≡ true
    told true f k g u = fixed-map ds m i g h f
    told false f k g u = k u

-- dimensions that are the same where an index array of a map depends on them
abbrev pub AreAlike : List Bounds → List Bounds → OutMap → Type 0
AreAlike ds es m = (k : ℕ) → k < length ds → (get_or ds k point ≡ get_or es k point) ⊎ (has_array_along k m ≡ false)

abbrev pub AreAlikeAll : List Bounds → List Bounds → List OutMap → Type 0
AreAlikeAll ds es ms = (k : ℕ) → k < length ds → (get_or ds k point ≡ get_or es k point) ⊎ (list_any (has_array_along k) ms ≡ false)

pub alike-first : (ds es : List Bounds) (m : OutMap) (ms : List OutMap) → AreAlikeAll ds es (m ∷ ms) → AreAlike ds es m
alike-first ds es m ms h k i = told (h k i)
  where
    told : (get_or ds k point ≡ get_or es k point) ⊎ (list_any (has_array_along k) (m ∷ ms) ≡ false) → (get_or ds k point ≡ get_or es k point) ⊎ (has_array_along k m ≡ false)
    told (inl e) = inl e
    told (inr e) = inr ((both_false (has_array_along k m) (list_any (has_array_along k) ms) e).0)

pub alike-rest : (ds es : List Bounds) (m : OutMap) (ms : List OutMap) → AreAlikeAll ds es (m ∷ ms) → AreAlikeAll ds es ms
alike-rest ds es m ms h k i = told (h k i)
  where
    told : (get_or ds k point ≡ get_or es k point) ⊎ (list_any (has_array_along k) (m ∷ ms) ≡ false) → (get_or ds k point ≡ get_or es k point) ⊎ (list_any (has_array_along k) ms ≡ false)
    told (inl e) = inl e
    told (inr e) = inr ((both_false (has_array_along k m) (list_any (has_array_along k) ms) e).1)

read_dims-from : (inners : List OutMap) (sizes : List ℕ) (a : ℕ) (ds es : List Bounds) → length ds ≡ length es
    → ((i : ℕ) → i < length ds → (get_or ds i point ≡ get_or es i point) ⊎ (is_read_along sizes inners (a + i) ≡ false))
    → read_dims a ds sizes inners ≡ read_dims a es sizes inners
read_dims-from inners sizes a [] [] l h = refl
read_dims-from inners sizes a [] (e ∷ es) l h = absurd (omega (arith, l))
read_dims-from inners sizes a (d ∷ ds) [] l h = absurd (omega (arith, l))
read_dims-from inners sizes a (d ∷ ds) (e ∷ es) l h =
    ap (λ (x : Bounds). x ∷ read_dims (a + 1) ds sizes inners) (told (h 0 (omega arith)))
    ∙ ap (λ (xs : List Bounds). read_along a sizes inners e ∷ xs)
    (read_dims-from inners sizes (a + 1) ds es (omega (arith, l)) (λ i j. let z : a + suc i ≡ (a + 1) + i = omega arith in rw z at (h (suc i) (omega (arith, j)))))
  where
    told : (d ≡ e) ⊎ (is_read_along sizes inners (a + 0) ≡ false) → read_along a sizes inners d ≡ read_along a sizes inners e
    told (inl p) = ap (read_along a sizes inners) p
    told (inr p) = let z : a + 0 ≡ a = omega arith in let q = rw z at p in rw q refl

-- such dimensions are read alike
read_dims-alike : (f : ℕ → Cut) (n : ℕ) (o s : ℤ) (sizes : List ℕ) (entries : List ℤ) (ds es : List Bounds) → length ds ≡ length es
    → AreAlike ds es (Indexed o s sizes entries) → read_dims 0 ds sizes (owns f n) ≡ read_dims 0 es sizes (owns f n)
read_dims-alike f n o s sizes entries ds es l h = read_dims-from (owns f n) sizes 0 ds es l (λ i j. told i (h i j))
  where
    told : (i : ℕ) → (get_or ds i point ≡ get_or es i point) ⊎ (not (get_or sizes i 1 == 1) ≡ false)
        → (get_or ds i point ≡ get_or es i point) ⊎ (is_read_along sizes (owns f n) (0 + i) ≡ false)
    told i (inl e) = inl e
    told i (inr e) = let z : i ≡ 0 + i = omega arith in inr (rw z at (unread f n i sizes e))

-- the numbers of such maps don't depend on the dimensions
-- the number of one dimension's own map
pub value-own : (f : ℕ → Cut) (ds : List Bounds) (cell : List ℤ) (n k : ℕ) → k < n
    → get_or (map (map_value ds cell) (owns f n)) k (pos 0) ≡ (f k).offset +ℤ (f k).stride *ℤ get_or cell k (pos 0)
value-own f ds cell n k h =
    ap (λ (ys : List ℤ). get_or ys k (pos 0)) (map-map (map_value ds cell) (own f) (range_with_len 0 n))
    ∙ get_or-map-range_with_len (λ j. map_value ds cell (own f j)) 0 n k k (pos 0) h (omega arith)

pub values-own : (f : ℕ → Cut) (ds es : List Bounds) (cell : List ℤ) (js : List ℕ) → map (map_value ds cell) (map (own f) js) ≡ map (map_value es cell) (map (own f) js)
values-own f ds es cell [] = refl
values-own f ds es cell (j ∷ js) = ap (λ (xs : List ℤ). map_value es cell (own f j) ∷ xs) (values-own f ds es cell js)

composed-alike : (f : ℕ → Cut) (n : ℕ) (outers ds es : List Bounds) (m : OutMap) → length ds ≡ length es → AreAlike ds es m
    → composed_map outers ds (owns f n) m ≡ composed_map outers es (owns f n) m
composed-alike f n outers ds es (Constant o) l h = refl
composed-alike f n outers ds es (Strided o s from) l h = refl
composed-alike f n outers ds es (Indexed o s sizes entries) l h =
    ap (λ (rs : List Bounds). Indexed o s (map size_of rs) (map (entry_over outers sizes entries ds (owns f n)) (cells_of rs))) (read_dims-alike f n o s sizes entries ds es l h)
    ∙ ap (λ (g : List ℤ → ℤ). let rs = read_dims 0 es sizes (owns f n) in Indexed o s (map size_of rs) (map g (cells_of rs))) (λ i cell. entry cell i)
  where
    entry : (cell : List ℤ) → entry_over outers sizes entries ds (owns f n) cell ≡ entry_over outers sizes entries es (owns f n) cell
    entry cell = ap (λ (ys : List ℤ). get_or entries (entry_place outers sizes ys) (pos 0)) (values-own f ds es cell (range_with_len 0 n))

pub maps-alike : (f : ℕ → Cut) (n : ℕ) (outers ds es : List Bounds) (ms : List OutMap) → length ds ≡ length es → AreAlikeAll ds es ms
    → map (composed_map outers ds (owns f n)) ms ≡ map (composed_map outers es (owns f n)) ms
maps-alike f n outers ds es [] l h = refl
maps-alike f n outers ds es (m ∷ ms) l h =
    ap (λ (x : OutMap). x ∷ map (composed_map outers ds (owns f n)) ms) (composed-alike f n outers ds es m l (alike-first ds es m ms h))
    ∙ ap (λ (xs : List OutMap). composed_map outers es (owns f n) m ∷ xs) (maps-alike f n outers ds es ms l (alike-rest ds es m ms h))

large-alike : (f : ℕ → Cut) (n : ℕ) (ds es : List Bounds) (m : OutMap) → length ds ≡ length es → AreAlike ds es m
    → is_too_large ds (owns f n) m ≡ is_too_large es (owns f n) m
large-alike f n ds es (Constant o) l h = refl
large-alike f n ds es (Strided o s from) l h = refl
large-alike f n ds es (Indexed o s sizes entries) l h =
    ap (λ (rs : List Bounds). not (nat_le (cell_count (map size_of rs)) 4194304)) (read_dims-alike f n o s sizes entries ds es l h)

pub first-large-alike : (f : ℕ → Cut) (n : ℕ) (ds es : List Bounds) (i : ℕ) (ms : List OutMap) → length ds ≡ length es → AreAlikeAll ds es ms
    → position_from (is_too_large ds (owns f n)) i ms ≡ position_from (is_too_large es (owns f n)) i ms
first-large-alike f n ds es i [] l h = refl
first-large-alike f n ds es i (m ∷ ms) l h =
    ap (λ b. cond b (Some i) (position_from (is_too_large ds (owns f n)) (i + 1) ms)) (large-alike f n ds es m l (alike-first ds es m ms h))
    ∙ ap (λ (o : Option ℕ). cond (is_too_large es (owns f n) m) (Some i) o) (first-large-alike f n ds es (i + 1) ms l (alike-rest ds es m ms h))

-- What was unread has no array of the composition.

flat-own : (f : ℕ → Cut) (k : ℕ) (o s : ℤ) (a n j : ℕ) → has_array_along k (strided_over o s (get_or (map (own f) (range_with_len a n)) j nowhere)) ≡ false
flat-own f k o s a zero j = refl
flat-own f k o s a (suc n) zero = refl
flat-own f k o s a (suc n) (suc j) = flat-own f k o s (a + 1) n j

size-unread : (inners : List OutMap) (sizes : List ℕ) (a : ℕ) (ds : List Bounds) (i : ℕ) → is_read_along sizes inners (a + i) ≡ false
    → get_or (map size_of (read_dims a ds sizes inners)) i 1 ≡ 1
size-unread inners sizes a [] i e = refl
size-unread inners sizes a (d ∷ ds) zero e = let z : a + 0 ≡ a = omega arith in let q = rw z at e in rw q refl
size-unread inners sizes a (d ∷ ds) (suc i) e = let z : a + suc i ≡ (a + 1) + i = omega arith in size-unread inners sizes (a + 1) ds i (rw z at e)

unread-composed : (f : ℕ → Cut) (n k : ℕ) (outers ds : List Bounds) (m : OutMap) → has_array_along k m ≡ false → has_array_along k (composed_map outers ds (owns f n) m) ≡ false
unread-composed f n k outers ds (Constant o) e = refl
unread-composed f n k outers ds (Strided o s from) e = flat-own f k o s 0 n from
unread-composed f n k outers ds (Indexed o s sizes entries) e =
    let z : k ≡ 0 + k = omega arith in
    let q = size-unread (owns f n) sizes 0 ds k (rw z at (unread f n k sizes e)) in
    ap (λ size. not (size == 1)) q

pub unread-all : (f : ℕ → Cut) (n k : ℕ) (outers ds : List Bounds) (ms : List OutMap) → list_any (has_array_along k) ms ≡ false
    → list_any (has_array_along k) (map (composed_map outers ds (owns f n)) ms) ≡ false
unread-all f n k outers ds [] e = refl
unread-all f n k outers ds (m ∷ ms) e =
    let p = both_false (has_array_along k m) (list_any (has_array_along k) ms) e in
    rw (unread-composed f n k outers ds m p.0, unread-all f n k outers ds ms p.1) refl
