-- The loops over a box can be cut into runs.
use Rattle.std.proofs.Common.{◌≡◌, ℕ, ◌+◌, ◌-◌, ◌*◌, ◌<◌, ◌≤◌, ℤ, pos, ◌+ℤ◌, ◌-ℤ◌, ◌*ℤ◌, unsigned_abs, List, [], ◌∷◌, length, map, arith}
use Rattle.std.proofs.lemmas.Int.{ints}
use Rattle.std.proofs.Math.Nat.{mul_comm, mul-add, mul-le-mul_left}
use Rattle.cells.specs.Places.{cell_count}
use Rattle.index_intervals.specs.Bounds.{Bounds}
use Rattle.index_transform.specs.Maps.{size_of}
use Rattle.index_transform.specs.Walks.{IsCell, lows}
use Rattle.strided_runs.specs.Loops.{IsPlace, AllRun, view_reach, ViewsRise, StayPlaces}
use Rattle.chunk_grid.specs.Boxes.{IsBoxIn, from_lows, cell_place, view_steps, loops_of}
use Rattle.chunk_grid.proofs.LoopLaws.{at_chunk}
use Rattle.chunk_grid.proofs.AffineLaws.{AreAbove}
use Rattle.chunk_grid.proofs.BoxPairs.{AreOrdered}

pub above-box : (dims box : List Bounds) → IsBoxIn dims box → AreAbove dims box
above-box [] [] h = tt
above-box [] (b ∷ box) h = absurd h
above-box (dim ∷ dims) [] h = absurd h
above-box (dim ∷ dims) (b ∷ box) h = (h.0, above-box dims box h.3)

pub ordered-box : (dims box : List Bounds) → IsBoxIn dims box → AreOrdered box
ordered-box [] [] h = tt
ordered-box [] (b ∷ box) h = absurd h
ordered-box (dim ∷ dims) [] h = absurd h
ordered-box (dim ∷ dims) (b ∷ box) h = let o = h.1 in (omega (arith, ints, o), ordered-box dims box h.3)

pub first-cell : (dims box : List Bounds) → IsBoxIn dims box → IsCell box (lows box)
first-cell [] [] h = tt
first-cell [] (b ∷ box) h = absurd h
first-cell (dim ∷ dims) [] h = absurd h
first-cell (dim ∷ dims) (b ∷ box) h = (omega (arith, ints), h.1, first-cell dims box h.3)

-- each loop runs
pub box-runs : (dims box : List Bounds) (views : List ℕ) (chunks : List ℤ) → IsBoxIn dims box → AllRun (loops_of box views chunks)
box-runs dims [] views chunks h = tt
box-runs [] (b ∷ box) views chunks h = absurd h
box-runs (dim ∷ dims) (b ∷ box) [] chunks h = tt
box-runs (dim ∷ dims) (b ∷ box) (v ∷ views) [] h = tt
box-runs (dim ∷ dims) (b ∷ box) (v ∷ views) (c ∷ chunks) h = let o = h.1 in (omega (arith, ints, o), box-runs dims box views chunks h.3)

-- the last cell's place lies below the number of cells
pub box-reach : (dims box : List Bounds) (chunks : List ℤ) → length chunks ≡ length box → IsBoxIn dims box
    → cell_place dims (lows box) + view_reach (loops_of box (view_steps dims) chunks) < cell_count (map size_of dims)
box-reach [] [] chunks l h = omega arith
box-reach [] (b ∷ box) chunks l h = absurd h
box-reach (dim ∷ dims) [] chunks l h = absurd h
box-reach (dim ∷ dims) (b ∷ box) [] l h = absurd (omega (arith, l))
box-reach (dim ∷ dims) (b ∷ box) (c ∷ chunks) l h =
    let r = box-reach dims box chunks (omega (arith, l)) h.3 in
    let w = cell_count (map size_of dims) in
    let low = h.0 in
    let some = h.1 in
    let high = h.2 in
    let k = unsigned_abs (b.lo -ℤ dim.lo) in
    let n = size_of b in
    let fit : (k + (n - 1)) + 1 ≤ size_of dim = omega (arith, ints, low, some, high) in
    let m : w * ((k + (n - 1)) + 1) ≤ w * size_of dim = mul-le-mul_left w fit in
    let p : w * ((k + (n - 1)) + 1) ≡ w * (k + (n - 1)) + w * 1 = mul-add w (k + (n - 1)) 1 in
    let q : w * (k + (n - 1)) ≡ w * k + w * (n - 1) = mul-add w k (n - 1) in
    let one : w * 1 ≡ w = omega arith in
    let a : k * w ≡ w * k = mul_comm k w in
    let d : size_of dim * w ≡ w * size_of dim = mul_comm (size_of dim) w in
    omega (arith, r, m, p, q, one, a, d)

-- the places in the view rise
pub box-rises : (dims box : List Bounds) (chunks : List ℤ) → length chunks ≡ length box → IsBoxIn dims box → ViewsRise (loops_of box (view_steps dims) chunks)
box-rises [] [] chunks l h = tt
box-rises [] (b ∷ box) chunks l h = absurd h
box-rises (dim ∷ dims) [] chunks l h = absurd h
box-rises (dim ∷ dims) (b ∷ box) [] l h = absurd (omega (arith, l))
box-rises (dim ∷ dims) (b ∷ box) (c ∷ chunks) l h =
    let r = box-reach dims box chunks (omega (arith, l)) h.3 in
    (omega (arith, r), box-rises dims box chunks (omega (arith, l)) h.3)

-- the chunk's places stay places where they are of each cell
pub box-stays : (dims box : List Bounds) (views : List ℕ) (chunks : List ℤ) (chunk : ℤ) → length views ≡ length box → length chunks ≡ length box → IsBoxIn dims box
    → ((cell : List ℤ) → IsCell box cell → IsPlace (chunk +ℤ at_chunk chunks (from_lows box cell))) → StayPlaces (loops_of box views chunks) chunk
box-stays [] [] [] [] chunk lv lc h p = let z : chunk +ℤ pos 0 ≡ chunk = omega (arith, ints) in rw z at (p [] tt)
box-stays dims [] (v ∷ views) chunks chunk lv lc h p = absurd (omega (arith, lv))
box-stays dims [] [] (c ∷ chunks) chunk lv lc h p = absurd (omega (arith, lc))
box-stays (dim ∷ dims) [] [] [] chunk lv lc h p = absurd h
box-stays [] (b ∷ box) views chunks chunk lv lc h p = absurd h
box-stays (dim ∷ dims) (b ∷ box) [] chunks chunk lv lc h p = absurd (omega (arith, lv))
box-stays (dim ∷ dims) (b ∷ box) (v ∷ views) [] chunk lv lc h p = absurd (omega (arith, lc))
box-stays (dim ∷ dims) (b ∷ box) (v ∷ views) (c ∷ chunks) chunk lv lc h p =
    λ k less. box-stays dims box views chunks (chunk +ℤ c *ℤ pos k) (omega (arith, lv)) (omega (arith, lc)) h.3 (λ cell q. one k less cell q)
  where
    one : (k : ℕ) → k < size_of b → (cell : List ℤ) → IsCell box cell → IsPlace ((chunk +ℤ c *ℤ pos k) +ℤ at_chunk chunks (from_lows box cell))
    one k less cell q =
        let some = h.1 in
        let is : IsCell (b ∷ box) ((b.lo +ℤ pos k) ∷ cell) = (omega (arith, ints), omega (arith, ints, less, some), q) in
        let off : unsigned_abs (b.lo +ℤ pos k -ℤ b.lo) ≡ k = omega (arith, ints) in
        let at = p ((b.lo +ℤ pos k) ∷ cell) is in
        let e : chunk +ℤ (c *ℤ pos k +ℤ at_chunk chunks (from_lows box cell)) ≡ (chunk +ℤ c *ℤ pos k) +ℤ at_chunk chunks (from_lows box cell) = omega (arith, ints) in
        rw (off, e) at at
