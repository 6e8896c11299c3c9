-- Steps along dimensions, one after another from the last.
use Rattle.std.proofs.Common.{◌≡◌, ◌∙◌, ℕ, zero, suc, ◌+◌, ◌*◌, ◌<◌, ◌≤◌, List, [], ◌∷◌, length, map, drop, get_or, replicate, refl, sym, ap, arith, ℤ, pos, ◌+ℤ◌, ◌-ℤ◌, ◌≤ℤ◌, unsigned_abs}
use Rattle.std.proofs.Math.Nat.{mul_comm, zero-mul}
use Rattle.cells.specs.Places.{cell_count}
use Rattle.index_intervals.specs.Bounds.{Bounds}
use Rattle.index_transform.specs.Maps.{size_of}
use Rattle.std.proofs.Math.ListN.{set}
use Rattle.std.specs.List.{AllByRecursion}
use Rattle.std.specs.List.{All}
use Rattle.std.proofs.lemmas.Int.{ints}
use Rattle.index_transform.specs.declared.map.OutMap.{OutMap}
use Rattle.index_transform.specs.Walks.{lows}
use Rattle.chunk_grid.specs.Boxes.{IsBoxIn, added_along, added_by, chunk_steps, view_steps, cell_place}

least : (a b : ℕ) → 0 < a * b → b ≤ a * b
least zero b h = absurd (let z = zero-mul b in omega (arith, h, z))
least (suc a) b h = omega arith

rest-some : (a b : ℕ) → 0 < a * b → 0 < b
rest-some a zero h = absurd (let z = mul_comm a 0 in let w = zero-mul a in omega (arith, h, z, w))
rest-some a (suc b) h = omega arith

-- the cells of the last dimensions are no more than all
pub last-few : (dims : List Bounds) (k : ℕ) (dim : Bounds) → k < length dims → dim ≡ get_or dims k dim → 0 < cell_count (map size_of dims)
    → cell_count (map size_of (drop (k + 1) dims)) * size_of dim ≤ cell_count (map size_of dims)
last-few [] k dim h e some = absurd (omega (arith, h))
last-few (d ∷ dims) zero dim h e some =
    let one : 0 + 1 ≡ 1 = omega arith in
    let same = ap size_of e in
    let c = mul_comm (cell_count (map size_of dims)) (size_of d) in
    rw (one, same) (omega (arith, c))
last-few (d ∷ dims) (suc k) dim h e some =
    let one : suc k + 1 ≡ suc (k + 1) = omega arith in
    let r = last-few dims k dim (omega (arith, h)) e (rest-some (size_of d) (cell_count (map size_of dims)) some) in
    let l = least (size_of d) (cell_count (map size_of dims)) some in
    rw one (omega (arith, r, l))

-- one step is set to what it was and so much more
pub added_set : (dim : ℕ) (by : ℤ) (steps : List ℤ) → dim < length steps → set steps dim (get_or steps dim (pos 0) +ℤ by) ≡ added_along dim by steps
added_set dim by [] h = absurd (omega (arith, h))
added_set zero by (x ∷ steps) h = refl
added_set (suc dim) by (x ∷ steps) h = ap (λ ys. x ∷ ys) (added_set dim by steps (omega (arith, h)))

pub added_past : (dim : ℕ) (by : ℤ) (steps : List ℤ) → length steps ≤ dim → steps ≡ added_along dim by steps
added_past dim by [] h = refl
added_past zero by (x ∷ steps) h = absurd (omega (arith, h))
added_past (suc dim) by (x ∷ steps) h = ap (λ ys. x ∷ ys) (added_past dim by steps (omega (arith, h)))

pub all_small : (n : ℕ) (steps : List ℤ) (dim : ℕ) → AllByRecursion (λ x. unsigned_abs x ≤ n) steps → dim < length steps → unsigned_abs (get_or steps dim (pos 0)) ≤ n
all_small n [] dim a h = absurd (omega (arith, h))
all_small n (x ∷ steps) zero a h = a.0
all_small n (x ∷ steps) (suc dim) a h = all_small n steps dim a.1 (omega (arith, h))

pub all_added : (dim : ℕ) (by : ℤ) (steps : List ℤ) (n b : ℕ) → unsigned_abs by ≤ b → AllByRecursion (λ x. unsigned_abs x ≤ n) steps → AllByRecursion (λ x. unsigned_abs x ≤ n + b) (added_along dim by steps)
all_added dim by [] n b h a = tt
all_added zero by (x ∷ steps) n b h a = let p = a.0 in (omega (arith, ints, h, p), all_wider steps n b a.1)
  where
    all_wider : (steps : List ℤ) (n b : ℕ) → AllByRecursion (λ x. unsigned_abs x ≤ n) steps → AllByRecursion (λ x. unsigned_abs x ≤ n + b) steps
    all_wider [] n b a = tt
    all_wider (x ∷ steps) n b a = let p = a.0 in (omega (arith, p), all_wider steps n b a.1)
all_added (suc dim) by (x ∷ steps) n b h a = let p = a.0 in (omega (arith, p), all_added dim by steps n b h a.1)

pub all_wider : (steps : List ℤ) (n b : ℕ) → AllByRecursion (λ x. unsigned_abs x ≤ n) steps → AllByRecursion (λ x. unsigned_abs x ≤ n + b) steps
all_wider [] n b a = tt
all_wider (x ∷ steps) n b a = let p = a.0 in (omega (arith, p), all_wider steps n b a.1)

pub all_within : (steps : List ℤ) (n m : ℕ) → n ≤ m → AllByRecursion (λ x. unsigned_abs x ≤ n) steps → AllByRecursion (λ x. unsigned_abs x ≤ m) steps
all_within [] n m h a = tt
all_within (x ∷ steps) n m h a = let p = a.0 in (omega (arith, p, h), all_within steps n m h a.1)

pub zeros-small : (rank : ℕ) (n : ℕ) → AllByRecursion (λ x. unsigned_abs x ≤ n) (replicate rank (pos 0))
zeros-small zero n = tt
zeros-small (suc rank) n = (omega arith, zeros-small rank n)

-- the last sizes of a chunk have no more cells than all
pub last-cells : (chunk : List ℕ) (k : ℕ) → All (λ size. 0 < size) chunk → cell_count (drop k chunk) ≤ cell_count chunk
last-cells [] zero h = omega arith
last-cells [] (suc k) h = omega arith
last-cells (n ∷ chunk) zero h = omega arith
last-cells (n ∷ chunk) (suc k) h =
    let r = last-cells chunk k (λ i d l. h (suc i) d (omega (arith, l))) in
    let p = h 0 0 (omega arith) in
    let l = more n (cell_count chunk) p in
    omega (arith, r, l)
  where
    more : (a b : ℕ) → 0 < a → b ≤ a * b
    more zero b q = absurd (omega (arith, q))
    more (suc a) b q = omega arith

-- one size more
pub cells-more : (chunk : List ℕ) (k : ℕ) → k < length chunk → cell_count (drop (k + 1) chunk) * get_or chunk k 0 ≡ cell_count (drop k chunk)
cells-more [] k h = absurd (omega (arith, h))
cells-more (n ∷ chunk) zero h = mul_comm (cell_count chunk) n
cells-more (n ∷ chunk) (suc k) h = let one : suc k + 1 ≡ suc (k + 1) = omega arith in rw one (cells-more chunk k (omega (arith, h)))

-- one output more
pub steps-more : (rank : ℕ) (maps : List OutMap) (chunk : List ℕ) (k : ℕ) (m : OutMap) → k < length maps → length maps ≡ length chunk → m ≡ get_or maps k m
    → added_by m (cell_count (drop (k + 1) chunk)) (chunk_steps rank (drop (k + 1) maps) (drop (k + 1) chunk)) ≡ chunk_steps rank (drop k maps) (drop k chunk)
steps-more rank [] chunk k m h l e = absurd (omega (arith, h))
steps-more rank (g ∷ maps) [] k m h l e = absurd (omega (arith, l))
steps-more rank (g ∷ maps) (n ∷ chunk) zero m h l e = ap (λ x. added_by x (cell_count chunk) (chunk_steps rank maps chunk)) e
steps-more rank (g ∷ maps) (n ∷ chunk) (suc k) m h l e = let one : suc k + 1 ≡ suc (k + 1) = omega arith in rw one (steps-more rank maps chunk k m (omega (arith, h)) (omega (arith, l)) e)

-- The place of a box's first cell, dimension by dimension.

pub view-at : (dims : List Bounds) (d : ℕ) → d < length dims → get_or (view_steps dims) d 0 ≡ cell_count (map size_of (drop (d + 1) dims))
view-at [] d h = absurd (omega (arith, h))
view-at (dim ∷ dims) zero h = refl
view-at (dim ∷ dims) (suc d) h = let one : suc d + 1 ≡ suc (d + 1) = omega arith in rw one (view-at dims d (omega (arith, h)))

pub length-view_steps : (dims : List Bounds) → length (view_steps dims) ≡ length dims
length-view_steps [] = refl
length-view_steps (dim ∷ dims) = ap suc (length-view_steps dims)

pub length-box : (dims box : List Bounds) → IsBoxIn dims box → length box ≡ length dims
length-box [] [] h = refl
length-box [] (b ∷ box) h = absurd h
length-box (dim ∷ dims) [] h = absurd h
length-box (dim ∷ dims) (b ∷ box) h = ap suc (length-box dims box h.3)

pub box-at : (dims box : List Bounds) (d : ℕ) (dim b : Bounds) → IsBoxIn dims box → d < length dims → dim ≡ get_or dims d dim → b ≡ get_or box d b → dim.lo ≤ℤ b.lo
box-at [] box d dim b h l e f = absurd (omega (arith, l))
box-at (x ∷ dims) [] d dim b h l e f = absurd h
box-at (x ∷ dims) (y ∷ box) zero dim b h l e f = let low = h.0 in rw (e, f) low
box-at (x ∷ dims) (y ∷ box) (suc d) dim b h l e f = box-at dims box d dim b h.3 (omega (arith, l)) e f

pub place-more : (dims box : List Bounds) (d : ℕ) (dim b : Bounds) → length box ≡ length dims → d < length dims → dim ≡ get_or dims d dim → b ≡ get_or box d b
    → cell_place (drop d dims) (lows (drop d box)) ≡ cell_count (map size_of (drop (d + 1) dims)) * unsigned_abs (b.lo -ℤ dim.lo) + cell_place (drop (d + 1) dims) (lows (drop (d + 1) box))
place-more [] box d dim b l h e f = absurd (omega (arith, h))
place-more (x ∷ dims) [] d dim b l h e f = absurd (omega (arith, l))
place-more (x ∷ dims) (y ∷ box) zero dim b l h e f =
    let c = mul_comm (unsigned_abs (b.lo -ℤ dim.lo)) (cell_count (map size_of dims)) in
    ap (λ z. unsigned_abs (z.lo -ℤ x.lo) * cell_count (map size_of dims) + cell_place dims (lows box)) (sym f)
    ∙ ap (λ z. unsigned_abs (b.lo -ℤ z.lo) * cell_count (map size_of dims) + cell_place dims (lows box)) (sym e) ∙ ap (λ n. n + cell_place dims (lows box)) c
place-more (x ∷ dims) (y ∷ box) (suc d) dim b l h e f =
    let one : suc d + 1 ≡ suc (d + 1) = omega arith in
    rw one (place-more dims box d dim b (omega (arith, l)) (omega (arith, h)) e f)
