-- The value of a composed map is the outer map's value at the inner values.
use Rattle.std.proofs.Common.{◌≡◌, ◌∙◌, zero, suc, ℕ, ◌+◌, ◌*◌, ◌-◌, ◌<◌, ◌==◌, Bool, true, false, cond, not, ◌&&◌, ◌||◌, List, [], ◌∷◌, ◌++◌, length, map, get_or, refl, sym, ap, subst, arith, ℤ, pos, ◌+ℤ◌, ◌-ℤ◌, ◌*ℤ◌, ◌≤ℤ◌, unsigned_abs}
use Rattle.std.proofs.Math.ListN.{get_or-append}
use Rattle.std.proofs.lemmas.Int.{ints}
use Rattle.std.proofs.lemmas.Bool.Decides.{nat_tests}
use Rattle.std.proofs.lemmas.List.{get_or-map, get_or-append_right, length-map}
use Rattle.std.proofs.lemmas.Nat.{mul-le}
use Rattle.std.specs.List.{list_all, list_any, zip, flat_map}
use Rattle.index_transform.specs.Places.{cell_count}
use Rattle.index_transform.specs.Bounds.{Bounds}
use Rattle.index_transform.specs.declared.map.OutMap.{OutMap}
use Rattle.index_transform.specs.declared.map.OutMap.TheVariants.{Constant, Strided, Indexed}
use Rattle.index_transform.specs.Maps.{size_of, is_fixed, fits_dim, fits, are_entries, is_map}
use Rattle.index_transform.specs.Cells.{counting, cells_of}
use Rattle.transform_composition.specs.Tightening.{tight_lower, tight_upper, interval_of, tight_dims, is_ordered}
use Rattle.index_transform.specs.Values.{entry_index, entry_place, map_value}
use Rattle.transform_composition.specs.Reading.{has_array_along, depends_on, is_read_along, read_along, read_dims, read_sizes, entry_over, point}
use Rattle.transform_composition.specs.Composing.{nowhere, strided_over, composed_map, closed, closed_along, closed_dims}
use Rattle.transform_composition.specs.Agreeing.{reads_along}
use Rattle.index_transform.proofs.Laws.{length-cells_of, length-flat_map, length-counting, multiplied_out}
use Rattle.transform_composition.proofs.FiniteLemmas.{read_head, read_tail}
use Rattle.transform_composition.proofs.FitLemmas.{tight-fixed}
use Rattle.index_transform.proofs.Laws.{both}

-- explicit bounds change no value
entry_index-closed : (k : ℕ) (ms : List OutMap) (d : Bounds) (n : ℕ) (x : ℤ) → entry_index (closed_along k ms d) n x ≡ entry_index d n x
entry_index-closed k ms d n x = told (list_any (has_array_along k) ms)
  where
    told : (b : Bool) → entry_index (cond b (closed d) d) n x ≡ entry_index d n x
    told true = refl
    told false = refl

entry_place-closed : (k : ℕ) (ds : List Bounds) (ms : List OutMap) (ns : List ℕ) (xs : List ℤ) → entry_place (closed_dims k ds ms) ns xs ≡ entry_place ds ns xs
entry_place-closed k [] ms ns xs = refl
entry_place-closed k (d ∷ ds) ms [] xs = refl
entry_place-closed k (d ∷ ds) ms (n ∷ ns) [] = refl
entry_place-closed k (d ∷ ds) ms (n ∷ ns) (x ∷ xs) = rw (entry_index-closed k ms d n x, entry_place-closed (k + 1) ds ms ns xs) refl

map_value-closed : (ds : List Bounds) (ms : List OutMap) (xs : List ℤ) (m : OutMap) → map_value (closed_dims 0 ds ms) xs m ≡ map_value ds xs m
map_value-closed ds ms xs (Constant o) = refl
map_value-closed ds ms xs (Strided o s dim) = refl
map_value-closed ds ms xs (Indexed o s ns entries) = rw (entry_place-closed 0 ds ms ns xs) refl

pub values-closed : (ds : List Bounds) (ms : List OutMap) (xs : List ℤ) (ns : List OutMap) → map (map_value (closed_dims 0 ds ms) xs) ns ≡ map (map_value ds xs) ns
values-closed ds ms xs [] = refl
values-closed ds ms xs (n ∷ ns) = rw (map_value-closed ds ms xs n, values-closed ds ms xs ns) refl

-- nor do tightened ones
entry_index-tight : (k : ℕ) (d : Bounds) (os : List Bounds) (gs : List OutMap) (n : ℕ) (x : ℤ) → is_ordered d ≡ true → fits_dim d n ≡ true
    → entry_index (interval_of (tight_lower k d os gs) (tight_upper k d os gs)) n x ≡ entry_index d n x
entry_index-tight k d os gs n x o f = told (n == 1) refl f
  where
    told : (b : Bool) → (n == 1) ≡ b → (b || (is_fixed d && n == size_of d)) ≡ true
        → entry_index (interval_of (tight_lower k d os gs) (tight_upper k d os gs)) n x ≡ entry_index d n x
    told true e g = rw e refl
    told false e g = ap (λ (b : Bounds). entry_index b n x) (tight-fixed k d os gs ((both (is_fixed d) (n == size_of d) g).0) o)

entry_place-tight : (k : ℕ) (ds os : List Bounds) (gs : List OutMap) (ns : List ℕ) (xs : List ℤ) → list_all is_ordered ds ≡ true
    → list_all (λ p. fits_dim p.0 p.1) (zip ds ns) ≡ true → entry_place (tight_dims k ds os gs) ns xs ≡ entry_place ds ns xs
entry_place-tight k [] os gs ns xs o f = refl
entry_place-tight k (d ∷ ds) os gs [] xs o f = refl
entry_place-tight k (d ∷ ds) os gs (n ∷ ns) [] o f = refl
entry_place-tight k (d ∷ ds) os gs (n ∷ ns) (x ∷ xs) o f =
    let p = both (is_ordered d) (list_all is_ordered ds) o in
    let q = both (fits_dim d n) (list_all (λ p. fits_dim p.0 p.1) (zip ds ns)) f in
    let a = entry_index-tight k d os gs n x p.0 q.0 in
    let b = entry_place-tight (k + 1) ds os gs ns xs p.1 q.1 in
    ap (λ i. i * cell_count ns + entry_place (tight_dims (k + 1) ds os gs) ns xs) a ∙ ap (λ i. entry_index d n x * cell_count ns + i) b

map_value-tight : (ds os : List Bounds) (gs : List OutMap) (xs : List ℤ) (m : OutMap) → list_all is_ordered ds ≡ true → is_map ds m ≡ true
    → map_value (tight_dims 0 ds os gs) xs m ≡ map_value ds xs m
map_value-tight ds os gs xs (Constant o) e f = refl
map_value-tight ds os gs xs (Strided o s dim) e f = refl
map_value-tight ds os gs xs (Indexed o s ns entries) e f =
    let p = both (fits ds ns) (are_entries ns entries) f in
    let q = both (length ds == length ns) (list_all (λ p. fits_dim p.0 p.1) (zip ds ns)) p.0 in
    ap (λ i. o +ℤ s *ℤ get_or entries i (pos 0)) (entry_place-tight 0 ds os gs ns xs e q.1)

pub values-tight : (ds os : List Bounds) (gs : List OutMap) (xs : List ℤ) (ms : List OutMap) → list_all is_ordered ds ≡ true → list_all (is_map ds) ms ≡ true
    → map (map_value (tight_dims 0 ds os gs) xs) ms ≡ map (map_value ds xs) ms
values-tight ds os gs xs [] e f = refl
values-tight ds os gs xs (m ∷ ms) e f =
    let p = both (is_map ds m) (list_all (is_map ds) ms) f in
    ap (λ z. z ∷ map (map_value (tight_dims 0 ds os gs) xs) ms) (map_value-tight ds os gs xs m e p.0)
    ∙ ap (λ zs. map_value ds xs m ∷ zs) (values-tight ds os gs xs ms e p.1)

-- an outer offset and stride over a map
value-strided_over : (ds : List Bounds) (xs : List ℤ) (o s : ℤ) (m : OutMap) → map_value ds xs (strided_over o s m) ≡ o +ℤ s *ℤ map_value ds xs m
value-strided_over ds xs o s (Constant p) = refl
value-strided_over ds xs o s (Strided p q dim) = multiplied_out o s p q (get_or xs dim (pos 0))
value-strided_over ds xs o s (Indexed p q ns entries) = multiplied_out o s p q (get_or entries (entry_place ds ns xs) (pos 0))

-- the index vector with 0 where the array isn't read along the dimension
masked : List ℕ → List OutMap → ℕ → List ℤ → List ℤ
masked ns gs k [] = []
masked ns gs k (x ∷ xs) = cond (is_read_along ns gs k) x (pos 0) ∷ masked ns gs (k + 1) xs

get_or-masked : (ns : List ℕ) (gs : List OutMap) (k : ℕ) (xs : List ℤ) (i : ℕ) → is_read_along ns gs (k + i) ≡ true → get_or (masked ns gs k xs) i (pos 0) ≡ get_or xs i (pos 0)
unfolding masked
get_or-masked ns gs k [] i e = refl
get_or-masked ns gs k (x ∷ xs) zero e = let z : k + 0 ≡ k = omega arith in let f = (rw z at e) in rw f refl
get_or-masked ns gs k (x ∷ xs) (suc i) e = let z : k + suc i ≡ (k + 1) + i = omega arith in get_or-masked ns gs (k + 1) xs i ((rw z at e))

entry_place-masked : (ns : List ℕ) (gs : List OutMap) (k : ℕ) (ds : List Bounds) (ls : List ℕ) (xs : List ℤ)
    → ((i : ℕ) → not (get_or ls i 1 == 1) ≡ true → is_read_along ns gs (k + i) ≡ true) → entry_place ds ls (masked ns gs k xs) ≡ entry_place ds ls xs
unfolding masked
entry_place-masked ns gs k [] ls xs h = refl
entry_place-masked ns gs k (d ∷ ds) [] xs h = refl
entry_place-masked ns gs k (d ∷ ds) (l ∷ ls) [] h = refl
entry_place-masked ns gs k (d ∷ ds) (l ∷ ls) (x ∷ xs) h =
    let a = told (l == 1) refl (λ u. let z : k + 0 ≡ k = omega arith in rw z at (h 0 u)) in
    let b = entry_place-masked ns gs (k + 1) ds ls xs (λ i u. let z : (k + 1) + i ≡ k + suc i = omega arith in rw z (h (suc i) u)) in
    ap (λ i. i * cell_count ls + entry_place ds ls (masked ns gs (k + 1) xs)) a ∙ ap (λ i. entry_index d l x * cell_count ls + i) b
  where
    told : (b : Bool) → (l == 1) ≡ b → (not b ≡ true → is_read_along ns gs k ≡ true)
        → entry_index d l (cond (is_read_along ns gs k) x (pos 0)) ≡ entry_index d l x
    told true e u = rw e refl
    told false e u = let v = u refl in rw v refl

map_value-masked : (ns : List ℕ) (gs : List OutMap) (ds : List Bounds) (xs : List ℤ) (m : OutMap)
    → ((i : ℕ) → depends_on i m ≡ true → is_read_along ns gs i ≡ true) → map_value ds (masked ns gs 0 xs) m ≡ map_value ds xs m
map_value-masked ns gs ds xs (Constant o) h = refl
map_value-masked ns gs ds xs (Strided o s dim) h =
    let here : (dim == dim) ≡ true = grind (arith, nat_tests) in
    let z : 0 + dim ≡ dim = omega arith in
    ap (λ x. o +ℤ s *ℤ x) (get_or-masked ns gs 0 xs dim (rw z (h dim here)))
map_value-masked ns gs ds xs (Indexed o s ls entries) h =
    ap (λ i. o +ℤ s *ℤ get_or entries i (pos 0))
    (entry_place-masked ns gs 0 ds ls xs (λ i u. let z : 0 + i ≡ i = omega arith in rw z (h i u)))

-- an array is read at the same entry
place-masked : (ns : List ℕ) (gs : List OutMap) (ds : List Bounds) (xs : List ℤ) (os : List Bounds) (ls : List ℕ) (ms : List OutMap)
    → ((i : ℕ) → is_read_along ls ms i ≡ true → is_read_along ns gs i ≡ true)
    → entry_place os ls (map (map_value ds (masked ns gs 0 xs)) ms) ≡ entry_place os ls (map (map_value ds xs) ms)
place-masked ns gs ds xs [] ls ms h = refl
place-masked ns gs ds xs (o ∷ os) [] ms h = refl
place-masked ns gs ds xs (o ∷ os) (l ∷ ls) [] h = refl
place-masked ns gs ds xs (o ∷ os) (l ∷ ls) (m ∷ ms) h =
    let b = place-masked ns gs ds xs os ls ms (λ i u. h i (read_tail l ls m ms i u)) in
    ap (λ i. i * cell_count ls + entry_place os ls (map (map_value ds (masked ns gs 0 xs)) ms)) (told (l == 1) refl)
    ∙ ap (λ i. entry_index o l (map_value ds xs m) * cell_count ls + i) b
  where
    told : (b : Bool) → (l == 1) ≡ b → entry_index o l (map_value ds (masked ns gs 0 xs) m) ≡ entry_index o l (map_value ds xs m)
    told true e = rw e refl
    told false e = ap (λ y. entry_index o l y) (map_value-masked ns gs ds xs m (λ i u. h i (read_head l ls m ms i e u)))

-- the cell at a place: so many cells of the rest stand before each index
get_or-cells : (cells : List (List ℤ)) (lo : ℤ) (n i r : ℕ) → i < n → r < length cells
    → get_or (flat_map (λ y. map (λ cell. y ∷ cell) cells) (counting lo n)) (i * length cells + r) [] ≡ (lo +ℤ pos i) ∷ get_or cells r []
get_or-cells cells lo zero i r h b = absurd (omega (arith, h))
get_or-cells cells lo (suc n) zero r h b =
    let l : length (map (λ cell. lo ∷ cell) cells) ≡ length cells = length-map cells (λ cell. lo ∷ cell) in
    let z : 0 * length cells + r ≡ r = omega arith in
    let e : lo +ℤ pos 0 ≡ lo = omega (arith, ints) in
    let rest = flat_map (λ y. map (λ cell. y ∷ cell) cells) (counting (lo +ℤ pos 1) n) in
    ap (λ (k : ℕ). get_or (map (λ cell. lo ∷ cell) cells ++ rest) k []) z
    ∙ get_or-append (map (λ cell. lo ∷ cell) cells) rest [] r (omega (arith, l, b))
    ∙ get_or-map (λ (cell : List ℤ). lo ∷ cell) cells r [] [] b
    ∙ ap (λ (x : ℤ). x ∷ get_or cells r []) (sym e)
get_or-cells cells lo (suc n) (suc i) r h b =
    let l : length (map (λ cell. lo ∷ cell) cells) ≡ length cells = length-map cells (λ cell. lo ∷ cell) in
    let rest = flat_map (λ y. map (λ cell. y ∷ cell) cells) (counting (lo +ℤ pos 1) n) in
    let z : suc i * length cells + r - length cells ≡ i * length cells + r = omega arith in
    let e : (lo +ℤ pos 1) +ℤ pos i ≡ lo +ℤ pos (suc i) = omega (arith, ints) in
    get_or-append_right (map (λ cell. lo ∷ cell) cells) rest (length cells) (suc i * length cells + r) [] l (omega arith)
    ∙ ap (λ (k : ℕ). get_or rest k []) z
    ∙ get_or-cells cells (lo +ℤ pos 1) n i r (omega (arith, h)) b
    ∙ ap (λ (x : ℤ). x ∷ get_or cells r []) e

-- what is found at the entry's place of an index vector that lies inside
record IsFound (ns : List ℕ) (gs : List OutMap) (k : ℕ) (ds : List Bounds) (xs : List ℤ) : Type 0 where
  below : entry_place ds (map size_of (read_dims k ds ns gs)) xs < length (cells_of (read_dims k ds ns gs))
  here : get_or (cells_of (read_dims k ds ns gs)) (entry_place ds (map size_of (read_dims k ds ns gs)) xs) [] ≡ masked ns gs k xs

placed : (i n c r : ℕ) → i < n → r < c → i * c + r < n * c
placed i n c r p q =
    let m = mul-le (suc i) c n c p (omega arith) in
    omega (arith, m)

IsFound-of : (ns : List ℕ) (gs : List OutMap) (k : ℕ) (ds : List Bounds) (xs : List ℤ) → length xs ≡ length ds
    → ((i : ℕ) → i < length ds → is_read_along ns gs (k + i) ≡ true → ((get_or ds i point).lo ≤ℤ get_or xs i (pos 0)) × (get_or xs i (pos 0) ≤ℤ (get_or ds i point).hi))
    → IsFound ns gs k ds xs
unfolding masked
IsFound-of ns gs k [] [] l h = record { below = omega arith; here = refl }
IsFound-of ns gs k [] (x ∷ xs) l h = absurd (omega (arith, l))
IsFound-of ns gs k (d ∷ ds) [] l h = absurd (omega (arith, l))
IsFound-of ns gs k (d ∷ ds) (x ∷ xs) l h =
    let f = IsFound-of ns gs (k + 1) ds xs (omega (arith, l)) (λ i b r. h (suc i) (omega (arith, b)) (let z : k + suc i ≡ (k + 1) + i = omega arith in rw z r)) in
    let t = told (is_read_along ns gs k) (λ e. h 0 (omega arith) (let z : k + 0 ≡ k = omega arith in rw z e)) in
    let c : List (List ℤ) = cells_of (read_dims (k + 1) ds ns gs) in
    let q : Bounds = read_along k ns gs d in
    let i : ℕ = entry_index d (size_of q) x in
    let r : ℕ = entry_place ds (map size_of (read_dims (k + 1) ds ns gs)) xs in
    let n : cell_count (map size_of (read_dims (k + 1) ds ns gs)) ≡ length c = sym (length-cells_of (read_dims (k + 1) ds ns gs)) in
    let place : i * cell_count (map size_of (read_dims (k + 1) ds ns gs)) + r ≡ i * length c + r = ap (λ z. i * z + r) n in
    let all : length (cells_of (q ∷ read_dims (k + 1) ds ns gs)) ≡ size_of q * length c =
    length-flat_map c (counting q.lo (size_of q)) ∙ ap (λ z. z * length c) (length-counting q.lo (size_of q)) in
    let b : i * length c + r < size_of q * length c = placed i (size_of q) (length c) r t.0 f.below in
    record {
      below = subst (λ z. z < length (cells_of (q ∷ read_dims (k + 1) ds ns gs))) (sym place) (subst (λ z. i * length c + r < z) (sym all) b);
      here = ap (λ z. get_or (cells_of (q ∷ read_dims (k + 1) ds ns gs)) z []) place
          ∙ get_or-cells c q.lo (size_of q) i r t.0 f.below
          ∙ ap (λ y. y ∷ get_or c r []) t.1 ∙ ap (λ ys. cond (is_read_along ns gs k) x (pos 0) ∷ ys) f.here;
    }
  where
    inside : (d.lo ≤ℤ x) → (x ≤ℤ d.hi) → (b : Bool) → (size_of d == 1) ≡ b
        → (cond b 0 (unsigned_abs (x -ℤ d.lo)) < size_of d) × (d.lo +ℤ pos (cond b 0 (unsigned_abs (x -ℤ d.lo))) ≡ x)
    inside a b true e =
        let one : size_of d ≡ 1 = grind (arith, nat_tests, e) in
        (omega (arith, one), omega (arith, ints, one, a, b))
    inside a b false e = (omega (arith, ints, a, b), omega (arith, ints, a, b))

    told : (b : Bool) → (b ≡ true → (d.lo ≤ℤ x) × (x ≤ℤ d.hi))
        → (entry_index d (size_of (cond b d point)) x < size_of (cond b d point))
        × ((cond b d point).lo +ℤ pos (entry_index d (size_of (cond b d point)) x) ≡ cond b x (pos 0))
    told true u = let v = u refl in inside v.0 v.1 (size_of d == 1) refl
    told false u = (omega arith, refl)

-- the value of an array that was read
value-read : (os ds : List Bounds) (gs : List OutMap) (xs : List ℤ) (o s : ℤ) (ns : List ℕ) (entries : List ℤ) → length xs ≡ length ds
    → ((i : ℕ) → i < length ds → is_read_along ns gs i ≡ true → ((get_or ds i point).lo ≤ℤ get_or xs i (pos 0)) × (get_or xs i (pos 0) ≤ℤ (get_or ds i point).hi))
    → map_value ds xs (composed_map os ds gs (Indexed o s ns entries)) ≡ map_value os (map (map_value ds xs) gs) (Indexed o s ns entries)
value-read os ds gs xs o s ns entries l h =
    let f = IsFound-of ns gs 0 ds xs l (λ i b r. h i b (let z : 0 + i ≡ i = omega arith in rw z at r)) in
    let e : List ℤ → ℤ = entry_over os ns entries ds gs in
    ap (λ z. o +ℤ s *ℤ z)
    (get_or-map (entry_over os ns entries ds gs) (cells_of (read_dims 0 ds ns gs)) (entry_place ds (read_sizes ds ns gs) xs) [] (pos 0) f.below
    ∙ ap (λ (cell : List ℤ). entry_over os ns entries ds gs cell) f.here
    ∙ ap (λ i. get_or entries i (pos 0)) (place-masked ns gs ds xs os ns gs (λ i u. u)))

-- one map, and all of them
value-composed : (os ds : List Bounds) (gs : List OutMap) (xs : List ℤ) (m : OutMap) → length gs ≡ length os → is_map os m ≡ true → length xs ≡ length ds
    → ((i : ℕ) → i < length ds → reads_along i gs m ≡ true → ((get_or ds i point).lo ≤ℤ get_or xs i (pos 0)) × (get_or xs i (pos 0) ≤ℤ (get_or ds i point).hi))
    → map_value ds xs (composed_map os ds gs m) ≡ map_value os (map (map_value ds xs) gs) m
value-composed os ds gs xs (Constant o) r e l h = refl
value-composed os ds gs xs (Strided o s from) r e l h =
    let below : from < length os = grind (arith, nat_tests, e) in
    value-strided_over ds xs o s (get_or gs from nowhere)
    ∙ ap (λ z. o +ℤ s *ℤ z) (sym (get_or-map (map_value ds xs) gs from nowhere (pos 0) (omega (arith, below, r))))
value-composed os ds gs xs (Indexed o s ns entries) r e l h = value-read os ds gs xs o s ns entries l h

pub values-composed : (os ds : List Bounds) (gs : List OutMap) (xs : List ℤ) (ms : List OutMap) → length gs ≡ length os → list_all (is_map os) ms ≡ true → length xs ≡ length ds
    → ((i : ℕ) → i < length ds → list_any (reads_along i gs) ms ≡ true → ((get_or ds i point).lo ≤ℤ get_or xs i (pos 0)) × (get_or xs i (pos 0) ≤ℤ (get_or ds i point).hi))
    → map (map_value ds xs) (map (composed_map os ds gs) ms) ≡ map (map_value os (map (map_value ds xs) gs)) ms
values-composed os ds gs xs [] r e l h = refl
values-composed os ds gs xs (m ∷ ms) r e l h =
    let p = both (is_map os m) (list_all (is_map os) ms) e in
    ap (λ z. z ∷ map (map_value ds xs) (map (composed_map os ds gs) ms)) (value-composed os ds gs xs m r p.0 l (λ i b u. h i b (rw u refl)))
    ∙ ap (λ zs. map_value os (map (map_value ds xs) gs) m ∷ zs) (values-composed os ds gs xs ms r p.1 l (λ i b u. h i b (more i (reads_along i gs m) u)))
  where
    more : (i : ℕ) (b : Bool) → list_any (reads_along i gs) ms ≡ true → (b || list_any (reads_along i gs) ms) ≡ true
    more i true u = refl
    more i false u = u
