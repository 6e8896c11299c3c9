-- One cell after another.
use Rattle.std.proofs.Common.{◌≡◌, ◌∙◌, zero, suc, ℕ, ◌+◌, ◌<◌, ◌≤◌, ◌==◌, Bool, true, false, cond, not, List, [], ◌∷◌, ◌++◌, length, map, drop, take, get_or, refl, sym, ap, subst, arith, ℤ, pos, ◌+ℤ◌, ◌-ℤ◌, ◌≤ℤ◌, ◌<ℤ◌, Option, Some, None, unsigned_abs, append_assoc}
use Rattle.std.specs.Bool.{OnFalse, MatchBool}
use Rattle.std.proofs.Math.ListN.{set}
use Rattle.std.proofs.Math.Seq.{drop-cons, take-suc, take-append_seam}
use Rattle.std.proofs.lemmas.List.{length-take-le}
use Rattle.std.proofs.lemmas.Int.{ints}
use Rattle.std.specs.List.{flat_map, list_any}
use Rattle.std.specs.Int.RustNames.{int_lt}
use Rattle.index_intervals.specs.Bounds.{Bounds}
use Rattle.index_transform.specs.Maps.{size_of}
use Rattle.index_transform.specs.Cells.{counting, cells_of}
use Rattle.index_transform.specs.Walks.{CellsLeft, IsNonEmpty, IsWalk, cells_from, lows, left_of, IsCell, after_some, next_cell}
use Rattle.index_transform.proofs.CellLemmas.{length-cells_of, cell_count-empty}
use Rattle.std.proofs.lemmas.List.{nil_from_length, length-map}

-- a distance one shorter
abs_step : (h x : ℤ) → x <ℤ h → unsigned_abs (h -ℤ x) ≡ suc (unsigned_abs (h -ℤ (x +ℤ pos 1)))
abs_step h x l = omega (arith, ints)

abs_none : (h x : ℤ) → x ≡ h → unsigned_abs (h -ℤ x) ≡ 0
abs_none h x e = omega (arith, ints)

size_step : (d : Bounds) → d.lo ≤ℤ d.hi → size_of d ≡ suc (unsigned_abs (d.hi -ℤ d.lo))
size_step d l = omega (arith, ints)

-- the cells from the lower bounds on are all
pub cells_from-lows : (dims : List Bounds) → IsNonEmpty dims → cells_from dims (lows dims) ≡ cells_of dims
cells_from-lows [] n = refl
cells_from-lows (dim ∷ dims) n =
    let e = cells_from-lows dims n.1 in
    let s = size_step dim n.0 in
    rw (e, s) refl

-- a cell's dimensions aren't empty
pub IsNonEmpty-cell : (dims : List Bounds) (xs : List ℤ) → IsCell dims xs → IsNonEmpty dims
IsNonEmpty-cell [] xs c = tt
IsNonEmpty-cell (dim ∷ dims) [] c = absurd c
IsNonEmpty-cell (dim ∷ dims) (x ∷ xs) c = (omega (arith, ints, c.0, c.1), IsNonEmpty-cell dims xs c.2)

-- what comes behind a cell
pub rest_of : List Bounds → Option (List ℤ) → List (List ℤ)
rest_of dims None = []
rest_of dims (Some ys) = cells_from dims ys

pub rest_of-None : (dims : List Bounds) → rest_of dims None ≡ []
unfolding rest_of
rest_of-None dims = refl

pub rest_of-Some : (dims : List Bounds) (ys : List ℤ) → rest_of dims (Some ys) ≡ cells_from dims ys
unfolding rest_of
rest_of-Some dims ys = refl

-- the cells from one on are that one and those from the next on
pub cells_from-next : (dims : List Bounds) (xs : List ℤ) → IsCell dims xs → cells_from dims xs ≡ xs ∷ rest_of dims (next_cell dims xs)
unfolding rest_of
cells_from-next [] [] c = refl
cells_from-next [] (x ∷ xs) c = absurd c
cells_from-next (dim ∷ dims) [] c = absurd c
cells_from-next (dim ∷ dims) (x ∷ xs) c =
    turned (next_cell dims xs) (cells_from-next dims xs c.2) (cells_from-lows dims (IsNonEmpty-cell dims xs c.2))
  where
    put : ℤ → List (List ℤ)
    put y = map (λ cell. y ∷ cell) (cells_of dims)

    behind : List (List ℤ)
    behind = flat_map put (counting (x +ℤ pos 1) (unsigned_abs (dim.hi -ℤ x)))

    risen : (b : Bool) → int_lt x dim.hi ≡ b → cells_from dims (lows dims) ≡ cells_of dims
        → (x ∷ xs) ∷ behind ≡ (x ∷ xs) ∷ rest_of (dim ∷ dims) (cond b (Some ((x +ℤ pos 1) ∷ lows dims)) None)
    risen true e l =
        let lt : x <ℤ dim.hi = grind (arith, ints, e) in
        let a = abs_step dim.hi x lt in
        rw (a, l) refl
    risen false e l =
        let same : x ≡ dim.hi = grind (arith, ints, e, c.1) in
        let a = abs_none dim.hi x same in
        rw a refl

    turned : (o : Option (List ℤ)) → cells_from dims xs ≡ xs ∷ rest_of dims o → cells_from dims (lows dims) ≡ cells_of dims
        → map (λ cell. x ∷ cell) (cells_from dims xs) ++ behind ≡ (x ∷ xs) ∷ rest_of (dim ∷ dims) (after_some x dim dims o)
    turned (Some ys) e l = rw e refl
    turned None e l = rw e (risen (int_lt x dim.hi) refl l)

-- an element written behind so many others
set-behind : {X : Type 0} (xs : List X) (y z : X) (zs : List X) → set (xs ++ y ∷ zs) (length xs) z ≡ xs ++ z ∷ zs
set-behind [] y z zs = refl
set-behind (x ∷ xs) y z zs = ap (λ l. x ∷ l) (set-behind xs y z zs)

get_or-behind : {X : Type 0} (xs : List X) (y d : X) (zs : List X) → get_or (xs ++ y ∷ zs) (length xs) d ≡ y
get_or-behind [] y d zs = refl
get_or-behind (x ∷ xs) y d zs = get_or-behind xs y d zs

-- a step behind the first dimensions is a step of all
pub next_cell-behind : (dims : List Bounds) (xs ys : List ℤ) (j : ℕ) → j ≤ length dims → length xs ≡ length dims
    → next_cell (drop j dims) (drop j xs) ≡ Some ys → next_cell dims xs ≡ Some (take j xs ++ ys)
next_cell-behind dims xs ys zero h l e = e
next_cell-behind [] xs ys (suc j) h l e = absurd (omega (arith, h))
next_cell-behind (dim ∷ dims) [] ys (suc j) h l e = absurd (omega (arith, l))
next_cell-behind (dim ∷ dims) (x ∷ xs) ys (suc j) h l e =
    rw (next_cell-behind dims xs ys j (omega (arith, h)) (omega (arith, l)) e) refl

-- what stands at a step of the loop
pub record StandsAt (dims : List Bounds) (old cur : List ℤ) (j : ℕ) (d : Bounds) (x : ℤ) : Type 0 where
  pub current : cur ≡ take j old ++ x ∷ lows (drop (suc j) dims)
  pub dims_left : drop j dims ≡ d ∷ drop (suc j) dims
  pub index_left : drop j old ≡ x ∷ drop (suc j) old
  pub length_before : length (take j old) ≡ j

pub StandsAt-of : (dims : List Bounds) (old cur : List ℤ) (k j : ℕ) (d : Bounds) → suc j ≡ k → k ≤ length dims → length old ≡ length dims
    → cur ≡ take k old ++ lows (drop k dims) → d ≡ get_or dims j d
    → StandsAt dims old cur j d (get_or cur j (pos 0))
StandsAt-of dims old cur k j d s h l e i =
    let below : j < length dims = omega arith in
    let below_old : j < length old = omega arith in
    let t = length-take-le j old (omega arith) in
    let x = get_or old j (pos 0) in
    let c : cur ≡ take j old ++ x ∷ lows (drop (suc j) dims) =
    e ∙ subst (λ (n : ℕ). take n old ++ lows (drop n dims) ≡ take j old ++ x ∷ lows (drop (suc j) dims)) s
    (ap (λ (z : List ℤ). z ++ lows (drop (suc j) dims)) (take-suc old j (pos 0) below_old) ∙ append_assoc (take j old) (x ∷ []) (lows (drop (suc j) dims))) in
    let g : get_or cur j (pos 0) ≡ x =
    ap (λ (z : List ℤ). get_or z j (pos 0)) c
    ∙ subst (λ (n : ℕ). get_or (take j old ++ x ∷ lows (drop (suc j) dims)) n (pos 0) ≡ x) t (get_or-behind (take j old) x (pos 0) (lows (drop (suc j) dims))) in
    record {
      current = c ∙ ap (λ (z : ℤ). take j old ++ z ∷ lows (drop (suc j) dims)) (sym g);
      dims_left = drop-cons dims j d below ∙ ap (λ (z : Bounds). z ∷ drop (suc j) dims) (sym i);
      index_left = drop-cons old j (pos 0) below_old ∙ ap (λ (z : ℤ). z ∷ drop (suc j) old) (sym g);
      length_before = t;
    }

-- an index that can rise makes the next cell
pub next_cell-risen : (dims : List Bounds) (old cur : List ℤ) (j : ℕ) (d : Bounds) (x : ℤ) → StandsAt dims old cur j d x
    → suc j ≤ length dims → length old ≡ length dims → next_cell (drop (suc j) dims) (drop (suc j) old) ≡ None → int_lt x d.hi ≡ true
    → next_cell dims old ≡ Some (set cur j (x +ℤ pos 1))
next_cell-risen dims old cur j d x s h l n r =
    let here : next_cell (drop j dims) (drop j old) ≡ Some ((x +ℤ pos 1) ∷ lows (drop (suc j) dims)) =
    rw (s.dims_left, s.index_left, n, r) refl in
    let w : set cur j (x +ℤ pos 1) ≡ take j old ++ (x +ℤ pos 1) ∷ lows (drop (suc j) dims) =
    ap (λ (z : List ℤ). set z j (x +ℤ pos 1)) s.current
    ∙ subst (λ (m : ℕ). set (take j old ++ x ∷ lows (drop (suc j) dims)) m (x +ℤ pos 1) ≡ take j old ++ (x +ℤ pos 1) ∷ lows (drop (suc j) dims)) s.length_before
    (set-behind (take j old) x (x +ℤ pos 1) (lows (drop (suc j) dims))) in
    next_cell-behind dims old _ j (omega arith) l here ∙ ap Some (sym w)

-- an index that can't begins again
pub next_cell-begun : (dims : List Bounds) (old cur : List ℤ) (j : ℕ) (d : Bounds) (x : ℤ) → StandsAt dims old cur j d x
    → next_cell (drop (suc j) dims) (drop (suc j) old) ≡ None → int_lt x d.hi ≡ false
    → (set cur j d.lo ≡ take j old ++ lows (drop j dims)) × (next_cell (drop j dims) (drop j old) ≡ None)
next_cell-begun dims old cur j d x s n r = (
  (ap (λ (z : List ℤ). set z j d.lo) s.current
      ∙ subst (λ (m : ℕ). set (take j old ++ x ∷ lows (drop (suc j) dims)) m d.lo ≡ take j old ++ d.lo ∷ lows (drop (suc j) dims)) s.length_before
      (set-behind (take j old) x d.lo (lows (drop (suc j) dims)))
      ∙ ap (λ (z : List Bounds). take j old ++ lows z) (sym s.dims_left)),
  (rw (s.dims_left, s.index_left, n, r) refl),
)

-- a walk begins with all cells
IsCell-lows : (dims : List Bounds) → IsNonEmpty dims → IsCell dims (lows dims)
IsCell-lows [] n = tt
IsCell-lows (dim ∷ dims) n = (omega (arith, ints), n.0, IsCell-lows dims n.1)

pub left_of-begun : (dims : List Bounds) (e : Bool) → e ≡ list_any (λ dim. size_of dim == 0) dims → OnFalse e (IsNonEmpty dims)
    → left_of e dims (lows dims) ≡ cells_of dims
left_of-begun dims true e n = sym (nil_from_length (cells_of dims) (length-cells_of dims ∙ cell_count-empty dims (sym e)))
left_of-begun dims false e n = cells_from-lows dims n

pub IsWalk-begun : (dims : List Bounds) (e : Bool) → OnFalse e (IsNonEmpty dims) → IsWalk e dims (lows dims)
IsWalk-begun dims true n = record { same = length-map dims (λ dim. dim.lo); at_cell = λ f. cc }
IsWalk-begun dims false n = record { same = length-map dims (λ dim. dim.lo); at_cell = λ f. IsCell-lows dims n }

-- one dimension less of which some may be empty
pub list_any-more : (dims : List Bounds) (k : ℕ) (d : Bounds) → k < length dims → d ≡ get_or dims k d → (size_of d == 0) ≡ false
    → list_any (λ dim. size_of dim == 0) (drop k dims) ≡ list_any (λ dim. size_of dim == 0) (drop (k + 1) dims)
list_any-more dims k d h i f =
    let one : k + 1 ≡ suc k = omega arith in
    let e = drop-cons dims k d h ∙ ap (λ (z : Bounds). z ∷ drop (suc k) dims) (sym i) in
    rw (e, f, one) refl

pub IsNonEmpty-more : (dims : List Bounds) (k : ℕ) (d : Bounds) → k < length dims → d ≡ get_or dims k d → d.lo ≤ℤ d.hi
    → IsNonEmpty (drop (k + 1) dims) → IsNonEmpty (drop k dims)
IsNonEmpty-more dims k d h i l n =
    let one : k + 1 ≡ suc k = omega arith in
    let e = drop-cons dims k d h ∙ ap (λ (z : Bounds). z ∷ drop (suc k) dims) (sym i) in
    let m = (rw one at n) in
    rw e (l, m)

-- the same of lists that are those
pub walk_begun : (ds dims : List Bounds) (ns : List ℤ) (e : Bool) → ds ≡ dims → ns ≡ lows dims
    → e ≡ list_any (λ dim. size_of dim == 0) dims → OnFalse e (IsNonEmpty dims)
    → (let w : CellsLeft = record { rank = length ds; cells = left_of e ds ns } in w) ≡ record { rank = length dims; cells = cells_of dims }
walk_begun ds dims ns e p q v n = rw (p, q, left_of-begun dims e v n) refl

pub IsWalk-of : (ds dims : List Bounds) (ns : List ℤ) (e : Bool) → ds ≡ dims → ns ≡ lows dims → OnFalse e (IsNonEmpty dims) → IsWalk e ds ns
IsWalk-of ds dims ns e p q n = rw (p, q) (IsWalk-begun dims e n)

-- a cell is left by the one after it, or the walk ends
IsCell-next : (dims : List Bounds) (xs ys : List ℤ) → IsCell dims xs → next_cell dims xs ≡ Some ys → IsCell dims ys
IsCell-next [] xs ys c e = cc
IsCell-next (dim ∷ dims) [] ys c e = absurd c
IsCell-next (dim ∷ dims) (x ∷ xs) ys c e =
    turned (next_cell dims xs) (λ zs f. IsCell-next dims xs zs c.2 f) (IsCell-lows dims (IsNonEmpty-cell dims xs c.2)) e
  where
    risen : (b : Bool) → int_lt x dim.hi ≡ b → IsCell dims (lows dims) → cond b (Some ((x +ℤ pos 1) ∷ lows dims)) None ≡ Some ys
        → IsCell (dim ∷ dims) ys
    risen true r l e =
        let same : (x +ℤ pos 1) ∷ lows dims ≡ ys = cc in
        let lt : x <ℤ dim.hi = grind (arith, ints, r) in
        subst (λ (z : List ℤ). IsCell (dim ∷ dims) z) same (omega (arith, ints, c.0), omega (arith, ints), l)
    risen false r l e = cc

    turned : (o : Option (List ℤ)) → ((zs : List ℤ) → o ≡ Some zs → IsCell dims zs) → IsCell dims (lows dims)
        → after_some x dim dims o ≡ Some ys → IsCell (dim ∷ dims) ys
    turned (Some zs) h l e =
        let same : x ∷ zs ≡ ys = cc in
        subst (λ (z : List ℤ). IsCell (dim ∷ dims) z) same (c.0, c.1, h zs refl)
    turned None h l e = risen (int_lt x dim.hi) refl l e

-- the walk behind a step, and the cells that it had
pub IsWalk-stepped : (dims : List Bounds) (xs ys : List ℤ) (r : Bool) → IsCell dims xs → length ys ≡ length dims
    → MatchBool r (next_cell dims xs ≡ Some ys) (next_cell dims xs ≡ None) → IsWalk (not r) dims ys
IsWalk-stepped dims xs ys true c l m = record { same = l; at_cell = λ f. IsCell-next dims xs ys c m }
IsWalk-stepped dims xs ys false c l m = record { same = l; at_cell = λ f. cc }

pub cells_from-stepped : (dims : List Bounds) (xs ys : List ℤ) (r : Bool) → IsCell dims xs
    → MatchBool r (next_cell dims xs ≡ Some ys) (next_cell dims xs ≡ None)
    → cells_from dims xs ≡ xs ∷ left_of (not r) dims ys
cells_from-stepped dims xs ys true c m =
    cells_from-next dims xs c ∙ ap (λ z. xs ∷ z) (ap (rest_of dims) m ∙ rest_of-Some dims ys)
cells_from-stepped dims xs ys false c m =
    cells_from-next dims xs c ∙ ap (λ z. xs ∷ z) (ap (rest_of dims) m ∙ rest_of-None dims)

-- a list written back over one of its length
pub written_back : {X : Type 0} (n : ℕ) (xs ys : List X) → n ≡ length xs → length ys ≡ length xs → take n (ys ++ drop (length ys) xs) ≡ ys
written_back n xs ys e l =
    subst (λ (m : ℕ). take m (ys ++ drop (length ys) xs) ≡ ys) (l ∙ sym e) (take-append_seam ys (drop (length ys) xs))
