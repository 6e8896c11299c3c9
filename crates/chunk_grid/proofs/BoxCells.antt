-- The cells of dimensions of which one is narrowed.
use Rattle.std.proofs.Common.{◌≡◌, ◌≢◌, ◌∙◌, ℕ, zero, suc, ◌<◌, Bool, true, false, cond, ◌&&◌, ℤ, pos, ◌+ℤ◌, ◌-ℤ◌, ◌≤ℤ◌, unsigned_abs, List, [], ◌∷◌, ◌++◌, length, map, get_or, refl, sym, ap, subst, arith, inl, inr}
use Rattle.std.specs.Prelude.{filter}
use Rattle.std.specs.List.{AllZip, Contains, flat_map, list_all}
use Rattle.std.proofs.Math.ListN.{set}
use Rattle.std.proofs.lemmas.Int.{ints, by_lt_z}
use Rattle.std.proofs.lemmas.Bool.{and_parts, cases_eq}
use Rattle.std.proofs.lemmas.List.Elements.{filter-append, Contains-append_left, Contains-append_right}
use Rattle.index_intervals.specs.Bounds.{Bounds}
use Rattle.index_transform.specs.Cells.{is_finite, counting, members_of, cells_of}
use Rattle.index_transform.specs.Maps.{size_of}
use Rattle.index_transform.specs.Walks.{IsCell, IsNonEmpty, lows}
use Rattle.index_intervals.specs.Bounds.{is_ordered}
use Rattle.index_transform.proofs.Laws.{AreCells, AreCells-cells_of}
use Rattle.chunk_grid.specs.BoxSteps.{IsNarrowed}
use Rattle.chunk_grid.proofs.BoxBounds.{finite-bounds}

-- filters of what is mapped or put before
filter-map : {X Y : Type 0} (p : Y → Bool) (f : X → Y) (xs : List X) → filter p (map f xs) ≡ map f (filter (λ x. p (f x)) xs)
filter-map p f [] = refl
filter-map {X} p f (x ∷ xs) = told (p (f x)) (filter-map p f xs) where
  told : (b : Bool) → filter p (map f xs) ≡ map f (filter (λ y. p (f y)) xs) → cond b (f x ∷ filter p (map f xs)) (filter p (map f xs)) ≡ map f (cond b (x ∷ filter (λ y. p (f y)) xs) (filter (λ y. p (f y)) xs))
  told true e = ap (λ ys. f x ∷ ys) e
  told false e = e

put-filter : (p : ℤ → Bool) (x : ℤ) (cs : List (List ℤ)) → filter (λ cell. p (get_or cell 0 (pos 0))) (map (λ c. x ∷ c) cs) ≡ cond (p x) (map (λ c. x ∷ c) cs) []
put-filter p x [] = told (p x) where
  told : (b : Bool) → ([] ≡ cond b (map (λ (c : List ℤ). x ∷ c) []) [])
  told true = refl
  told false = refl
put-filter p x (c ∷ cs) = told (p x) (put-filter p x cs) where
  told : (b : Bool) → filter (λ cell. p (get_or cell 0 (pos 0))) (map (λ c. x ∷ c) cs) ≡ cond b (map (λ c. x ∷ c) cs) []
      → cond b ((x ∷ c) ∷ filter (λ cell. p (get_or cell 0 (pos 0))) (map (λ c. x ∷ c) cs)) (filter (λ cell. p (get_or cell 0 (pos 0))) (map (λ c. x ∷ c) cs)) ≡ cond b (map (λ c. x ∷ c) (c ∷ cs)) []
  told true e = ap (λ ys. (x ∷ c) ∷ ys) e
  told false e = e

firsts-filter : (p : ℤ → Bool) (cs : List (List ℤ)) (xs : List ℤ) → flat_map (λ x. map (λ c. x ∷ c) cs) (filter p xs) ≡ filter (λ cell. p (get_or cell 0 (pos 0))) (flat_map (λ x. map (λ c. x ∷ c) cs) xs)
firsts-filter p cs [] = refl
firsts-filter p cs (x ∷ xs) =
    let here = put-filter p x cs in
    told (p x)
    ∙ (λ i. (sym here) i ++ firsts-filter p cs xs i)
    ∙ sym (filter-append (λ cell. p (get_or cell 0 (pos 0))) (map (λ c. x ∷ c) cs) (flat_map (λ x. map (λ c. x ∷ c) cs) xs))
  where
    told : (b : Bool) → flat_map (λ x. map (λ c. x ∷ c) cs) (cond b (x ∷ filter p xs) (filter p xs)) ≡ cond b (map (λ c. x ∷ c) cs) [] ++ flat_map (λ x. map (λ c. x ∷ c) cs) (filter p xs)
    told true = refl
    told false = refl

rests-filter : (p : ℤ → Bool) (d : ℕ) (cs : List (List ℤ)) (xs : List ℤ)
    → flat_map (λ x. map (λ c. x ∷ c) (filter (λ c. p (get_or c d (pos 0))) cs)) xs ≡ filter (λ cell. p (get_or cell (suc d) (pos 0))) (flat_map (λ x. map (λ c. x ∷ c) cs) xs)
rests-filter p d cs [] = refl
rests-filter p d cs (x ∷ xs) =
    let here = filter-map (λ cell. p (get_or cell (suc d) (pos 0))) (λ c. x ∷ c) cs in
    (λ i. (sym here) i ++ rests-filter p d cs xs i)
    ∙ sym (filter-append (λ cell. p (get_or cell (suc d) (pos 0))) (map (λ c. x ∷ c) cs) (flat_map (λ x. map (λ c. x ∷ c) cs) xs))

-- an interval of a dimension has the cells whose index passes
pub cells-narrowed : (p : ℤ → Bool) (d : ℕ) (dims : List Bounds) (b : Bounds) → d < length dims → members_of b ≡ filter p (members_of (get_or dims d b))
    → cells_of (set dims d b) ≡ filter (λ cell. p (get_or cell d (pos 0))) (cells_of dims)
cells-narrowed p d [] b lt e = absurd (omega arith)
cells-narrowed p zero (dim ∷ dims) b lt e =
    ap (flat_map (λ x. map (λ c. x ∷ c) (cells_of dims))) e ∙ firsts-filter p (cells_of dims) (members_of dim)
cells-narrowed p (suc d) (dim ∷ dims) b lt e =
    ap (λ (cs : List (List ℤ)). flat_map (λ x. map (λ c. x ∷ c) cs) (members_of dim)) (cells-narrowed p d dims b (omega arith) e)
    ∙ rests-filter p d (cells_of dims) (members_of dim)

-- which index vectors are cells
pub counting-at : (n k : ℕ) (x y : ℤ) → k < n → get_or (counting x n) k y ≡ x +ℤ pos k
counting-at zero k x y lt = absurd (omega arith)
counting-at (suc n) zero x y lt = omega (arith, ints)
counting-at (suc n) (suc k) x y lt =
    let rest = counting-at n k (x +ℤ pos 1) y (omega arith) in
    omega (arith, ints, rest)

pub length-counting : (n : ℕ) (x : ℤ) → length (counting x n) ≡ n
length-counting zero x = refl
length-counting (suc n) x = ap suc (length-counting n (x +ℤ pos 1))

contains-member : (dim : Bounds) (x : ℤ) → dim.lo ≤ℤ x → x ≤ℤ dim.hi → Contains (members_of dim) x
contains-member dim x low high =
    let k = unsigned_abs (x -ℤ dim.lo) in
    let lt : k < size_of dim = omega (arith, ints) in
    let long = length-counting (size_of dim) dim.lo in
    let at = counting-at (size_of dim) k dim.lo x lt in
    (k, omega (arith, lt, long), omega (arith, ints, at))

contains-map : {X Y : Type 0} (f : X → Y) (xs : List X) (x : X) (k : ℕ) → k < length xs → get_or xs k x ≡ x → Contains (map f xs) (f x)
contains-map f [] x k lt is = absurd (omega arith)
contains-map f (y ∷ ys) x zero lt is = (0, omega arith, ap f is)
contains-map f (y ∷ ys) x (suc k) lt is = let rest = contains-map f ys x k (omega arith) is in let l = rest.1 in (suc rest.0, omega (arith, l), rest.2)

contains-flat : (cs : List (List ℤ)) (cell : List ℤ) (x : ℤ) → Contains cs cell → (xs : List ℤ) (k : ℕ) → k < length xs → get_or xs k x ≡ x → Contains (flat_map (λ y. map (λ c. y ∷ c) cs) xs) (x ∷ cell)
contains-flat cs cell x has [] k lt is = absurd (omega arith)
contains-flat cs cell x has (y ∷ xs) zero lt is =
    subst (λ (z : ℤ). Contains (map (λ c. z ∷ c) cs ++ flat_map (λ y. map (λ c. y ∷ c) cs) xs) (x ∷ cell)) (sym is)
    (Contains-append_left (map (λ c. x ∷ c) cs) (flat_map (λ y. map (λ c. y ∷ c) cs) xs) (x ∷ cell) (contains-map (λ c. x ∷ c) cs cell has.0 has.1 has.2))
contains-flat cs cell x has (y ∷ xs) (suc k) lt is =
    Contains-append_right (map (λ c. y ∷ c) cs) (flat_map (λ y. map (λ c. y ∷ c) cs) xs) (x ∷ cell) (contains-flat cs cell x has xs k (omega arith) is)

pub contains-cell : (dims : List Bounds) (cell : List ℤ) → IsCell dims cell → Contains (cells_of dims) cell
contains-cell [] [] c = (0, omega arith, refl)
contains-cell [] (x ∷ cell) c = absurd c
contains-cell (dim ∷ dims) [] c = absurd c
contains-cell (dim ∷ dims) (x ∷ cell) c =
    let member = contains-member dim x c.0 c.1 in
    contains-flat (cells_of dims) cell x (contains-cell dims cell c.2) (members_of dim) member.0 member.1 member.2

pub cell-at : (dims : List Bounds) (cell : List ℤ) (d : ℕ) (b : Bounds) → IsCell dims cell → d < length dims → ((get_or dims d b).lo ≤ℤ get_or cell d (pos 0)) × (get_or cell d (pos 0) ≤ℤ (get_or dims d b).hi)
cell-at [] cell d b c lt = absurd (omega arith)
cell-at (dim ∷ dims) [] d b c lt = absurd c
cell-at (dim ∷ dims) (x ∷ cell) zero b c lt = (c.0, c.1)
cell-at (dim ∷ dims) (x ∷ cell) (suc d) b c lt = cell-at dims cell d b c.2 (omega arith)

pub lows-cell : (dims : List Bounds) → IsNonEmpty dims → IsCell dims (lows dims)
lows-cell [] some = tt
lows-cell (dim ∷ dims) some = (omega (arith, ints), some.0, lows-cell dims some.1)

-- a cell with an index
pub record HasIndex (dims : List Bounds) (d : ℕ) (x : ℤ) : Type 0 where
  pub cell : List ℤ
  pub is : IsCell dims cell
  pub at : get_or cell d (pos 0) ≡ x

pub some-cell : (dims : List Bounds) (d : ℕ) (b : Bounds) (x : ℤ) → IsNonEmpty dims → d < length dims → (get_or dims d b).lo ≤ℤ x → x ≤ℤ (get_or dims d b).hi → HasIndex dims d x
some-cell [] d b x some lt low high = absurd (omega arith)
some-cell (dim ∷ dims) zero b x some lt low high = record { cell = x ∷ lows dims; is = (low, high, lows-cell dims some.1); at = refl }
some-cell (dim ∷ dims) (suc d) b x some lt low high =
    let rest = some-cell dims d b x some.1 (omega arith) low high in
    record { cell = dim.lo ∷ rest.cell; is = (omega (arith, ints), some.0, rest.is); at = rest.at }

-- the cells are cells
pub ordered-filled : (dims : List Bounds) → IsNonEmpty dims → list_all is_ordered dims ≡ true
ordered-filled [] some = refl
ordered-filled (dim ∷ dims) some =
    let low = some.0 in
    let here : is_ordered dim ≡ true = grind (arith, ints, low) in
    (λ i. here i && list_all is_ordered dims) ∙ ordered-filled dims some.1

all-cells : (dims : List Bounds) (cells : List (List ℤ)) → AreCells dims cells → (cell : List ℤ) (k : ℕ) → k < length cells → get_or cells k cell ≡ cell → IsCell dims cell
all-cells dims [] all cell k lt is = absurd (omega arith)
all-cells dims (c ∷ cells) all cell zero lt is = subst (IsCell dims) is all.0
all-cells dims (c ∷ cells) all cell (suc k) lt is = all-cells dims cells all.1 cell k (omega arith) is

pub cell-contained : (dims : List Bounds) (cell : List ℤ) → IsNonEmpty dims → Contains (cells_of dims) cell → IsCell dims cell
cell-contained dims cell some has = all-cells dims (cells_of dims) (AreCells-cells_of dims (ordered-filled dims some)) cell has.0 has.1 has.2

-- where there are cells
none_in : {X : Type 0} (xs : List X) (x : X) → Contains xs x → xs ≢ []
none_in {X} xs x has e = let l = ap (λ (ys : List X). length ys) e in let m = has.1 in absurd (omega (arith, l, m))

pub filled-some : (dims : List Bounds) → IsNonEmpty dims → cells_of dims ≢ []
filled-some dims some = none_in (cells_of dims) (lows dims) (contains-cell dims (lows dims) (lows-cell dims some))

no_firsts : (xs : List ℤ) → flat_map (λ x. map (λ (c : List ℤ). x ∷ c) []) xs ≡ []
no_firsts [] = refl
no_firsts (x ∷ xs) = no_firsts xs

pub some-filled : (dims : List Bounds) → list_all is_ordered dims ≡ true → cells_of dims ≢ [] → IsNonEmpty dims
some-filled [] e some = tt
some-filled (dim ∷ dims) e some =
    let parts = and_parts (is_ordered dim) (list_all is_ordered dims) e in
    let ordered : dim.lo ≤ℤ (dim.hi +ℤ pos 1) = grind (arith, ints, parts.0) in (
      elim (cases_eq (size_of dim) 0) [
        | inl none ↦ absurd (some (ap (λ (n : ℕ). flat_map (λ x. map (λ c. x ∷ c) (cells_of dims)) (counting dim.lo n)) none))
        | inr more ↦ filled dim ordered more
      ],
      some-filled dims parts.1 (λ none. some (ap (λ (cs : List (List ℤ)). flat_map (λ x. map (λ c. x ∷ c) cs) (members_of dim)) none ∙ no_firsts (members_of dim))),
    )
  where
    filled : (d : Bounds) → d.lo ≤ℤ (d.hi +ℤ pos 1) → (size_of d ≡ 0 → ⊥) → d.lo ≤ℤ d.hi
    filled d ordered more = by_lt_z d.hi d.lo (λ l. absurd (more (omega (arith, ints)))) (λ l. l)

-- narrowed dimensions
pub narrowed-itself : (dims : List Bounds) → IsNonEmpty dims → AllZip IsNarrowed dims dims
narrowed-itself [] some = tt
narrowed-itself (dim ∷ dims) some = (record { low = omega (arith, ints); some = some.0; high = omega (arith, ints) }, narrowed-itself dims some.1)

pub narrowed-set : (dims : List Bounds) (d : ℕ) (b : Bounds) → IsNonEmpty dims → d < length dims → IsNarrowed (get_or dims d b) b → AllZip IsNarrowed dims (set dims d b)
narrowed-set [] d b some lt n = absurd (omega arith)
narrowed-set (dim ∷ dims) zero b some lt n = (n, narrowed-itself dims some.1)
narrowed-set (dim ∷ dims) (suc d) b some lt n = (record { low = omega (arith, ints); some = some.0; high = omega (arith, ints) }, narrowed-set dims d b some.1 (omega arith) n)

pub narrowed-filled : (dims parts : List Bounds) → AllZip IsNarrowed dims parts → IsNonEmpty parts
narrowed-filled [] [] n = tt
narrowed-filled [] (b ∷ parts) n = absurd n
narrowed-filled (dim ∷ dims) [] n = absurd n
narrowed-filled (dim ∷ dims) (b ∷ parts) n = (n.0.some, narrowed-filled dims parts n.1)

narrower : (a b c : Bounds) → IsNarrowed a b → IsNarrowed b c → IsNarrowed a c
narrower a b c m n =
    let l = m.low in
    let h = m.high in
    let k = n.low in
    let j = n.high in
    record { low = omega (arith, ints); some = n.some; high = omega (arith, ints) }

pub narrowed-more : (a b c : List Bounds) → AllZip IsNarrowed a b → AllZip IsNarrowed b c → AllZip IsNarrowed a c
narrowed-more [] [] [] m n = tt
narrowed-more [] [] (z ∷ c) m n = absurd n
narrowed-more [] (y ∷ b) c m n = absurd m
narrowed-more (x ∷ a) [] c m n = absurd m
narrowed-more (x ∷ a) (y ∷ b) [] m n = absurd n
narrowed-more (x ∷ a) (y ∷ b) (z ∷ c) m n = (narrower x y z m.0 n.0, narrowed-more a b c m.1 n.1)

pub narrowed-length : (a b : List Bounds) → AllZip IsNarrowed a b → length b ≡ length a
narrowed-length [] [] n = refl
narrowed-length [] (y ∷ b) n = absurd n
narrowed-length (x ∷ a) [] n = absurd n
narrowed-length (x ∷ a) (y ∷ b) n = ap suc (narrowed-length a b n.1)

finite-narrowed : (a b : Bounds) → is_finite a ≡ true → IsNarrowed a b → is_finite b ≡ true
finite-narrowed a b e n =
    let f = finite-bounds a e in
    let g = f.lo_above in
    let h = f.hi_below in
    let low = n.low in
    let some = n.some in
    let high = n.high in
    grind (arith, ints)

pub narrowed-finite : (a b : List Bounds) → list_all is_finite a ≡ true → AllZip IsNarrowed a b → list_all is_finite b ≡ true
narrowed-finite [] [] e n = refl
narrowed-finite [] (y ∷ b) e n = absurd n
narrowed-finite (x ∷ a) [] e n = absurd n
narrowed-finite (x ∷ a) (y ∷ b) e n =
    let parts = and_parts (is_finite x) (list_all is_finite a) e in
    let here = finite-narrowed x y parts.0 n.0 in
    (λ i. here i && list_all is_finite b) ∙ narrowed-finite a b parts.1 n.1

-- a cell of narrowed dimensions is one of the dimensions
pub narrowed-cell : (a b : List Bounds) (cell : List ℤ) → AllZip IsNarrowed a b → IsCell b cell → IsCell a cell
narrowed-cell [] [] cell n c = c
narrowed-cell [] (y ∷ b) cell n c = absurd n
narrowed-cell (x ∷ a) [] cell n c = absurd n
narrowed-cell (x ∷ a) (y ∷ b) [] n c = absurd c
narrowed-cell (x ∷ a) (y ∷ b) (z ∷ cell) n c =
    let low = n.0.low in
    let high = n.0.high in
    let l = c.0 in
    let h = c.1 in
    (omega (arith, ints), omega (arith, ints), narrowed-cell a b cell n.1 c.2)
