-- Places in the view and in a chunk go by steps from cell to cell of a box.
use Rattle.std.proofs.Common.{◌≡◌, ◌∙◌, ℕ, zero, suc, ◌+◌, ◌*◌, ◌/◌, ◌%◌, ◌<◌, ℤ, pos, ◌+ℤ◌, ◌-ℤ◌, ◌*ℤ◌, ◌≤ℤ◌, unsigned_abs, List, [], ◌∷◌, length, map, replicate, get_or, refl, sym, ap, arith}
use Rattle.std.proofs.lemmas.Int.{ints}
use Rattle.std.proofs.lemmas.Nat.{div-add-mod'}
use Rattle.std.proofs.Math.IntN.{*ℤ_comm, zero-*ℤ}
use Rattle.std.proofs.Math.Nat.{mul_comm, mul-add}
use Rattle.cells.specs.Places.{cell_count}
use Rattle.index_intervals.specs.Bounds.{Bounds}
use Rattle.index_intervals.proofs.Laws.{add-*ℤ}
use Rattle.index_transform.specs.declared.map.OutMap.{OutMap}
use Rattle.index_transform.specs.declared.map.OutMap.TheVariants.{Constant, Strided, Indexed}
use Rattle.index_transform.specs.Maps.{size_of}
use Rattle.index_transform.specs.Values.{map_value}
use Rattle.index_transform.proofs.Laws.{*ℤ_assoc}
use Rattle.index_transform.specs.Walks.{IsCell, lows}
use Rattle.chunk_grid.specs.Grid.{AreFromZero, numbers, chunk_index, place_within}
use Rattle.chunk_grid.specs.Boxes.{from_lows, cell_place, view_steps, added_along, added_by, chunk_steps}
use Rattle.chunk_grid.proofs.LoopLaws.{at_view, at_chunk}

-- The view.

pub place-steps : (dims : List Bounds) (cell : List ℤ) → cell_place dims cell ≡ at_view (view_steps dims) (from_lows dims cell)
place-steps [] cell = refl
place-steps (dim ∷ dims) [] = refl
place-steps (dim ∷ dims) (x ∷ cell) =
    let r = place-steps dims cell in
    let c : unsigned_abs (x -ℤ dim.lo) * cell_count (map size_of dims) ≡ cell_count (map size_of dims) * unsigned_abs (x -ℤ dim.lo) = mul_comm (unsigned_abs (x -ℤ dim.lo)) (cell_count (map size_of dims)) in
    rw (c, r) refl

-- each interval of the box lies above the lower bound of the dimension
abbrev pub AreAbove : List Bounds → List Bounds → Type 0
AreAbove [] [] = Unit {0}
AreAbove [] (b ∷ box) = ⊥
AreAbove (dim ∷ dims) [] = ⊥
AreAbove (dim ∷ dims) (b ∷ box) = (dim.lo ≤ℤ b.lo) × AreAbove dims box

pub above-length : (dims box : List Bounds) → AreAbove dims box → length box ≡ length dims
above-length [] [] h = refl
above-length [] (b ∷ box) h = absurd h
above-length (dim ∷ dims) [] h = absurd h
above-length (dim ∷ dims) (b ∷ box) h = ap suc (above-length dims box h.1)

-- the place of a cell of the box, from that of its first cell on
pub view-from : (views : List ℕ) (dims box : List Bounds) (cell : List ℤ) → length views ≡ length dims → AreAbove dims box → IsCell box cell
    → at_view views (from_lows dims cell) ≡ at_view views (from_lows dims (lows box)) + at_view views (from_lows box cell)
view-from [] [] [] cell l a c = refl
view-from (v ∷ views) [] box cell l a c = absurd (omega (arith, l))
view-from [] (dim ∷ dims) box cell l a c = absurd (omega (arith, l))
view-from views [] (b ∷ box) cell l a c = absurd a
view-from views (dim ∷ dims) [] cell l a c = absurd a
view-from views dims (b ∷ box) [] l a c = absurd c
view-from (v ∷ views) (dim ∷ dims) (b ∷ box) (x ∷ cell) l a c =
    let r = view-from views dims box cell (omega (arith, l)) a.1 c.2 in
    let low = a.0 in
    let above = c.0 in
    let split : unsigned_abs (x -ℤ dim.lo) ≡ unsigned_abs (b.lo -ℤ dim.lo) + unsigned_abs (x -ℤ b.lo) = omega (arith, ints, low, above) in
    let m = mul-add v (unsigned_abs (b.lo -ℤ dim.lo)) (unsigned_abs (x -ℤ b.lo)) in
    let first : v * unsigned_abs (x -ℤ dim.lo) ≡ v * unsigned_abs (b.lo -ℤ dim.lo) + v * unsigned_abs (x -ℤ b.lo) = ap (λ n. v * n) split ∙ m in
    omega (arith, first, r)

-- The chunk.

-- how far a map's number goes by the indices from the lower bounds on
abbrev pub along : OutMap → List ℕ → ℤ
along (Constant offset) offs = pos 0
along (Strided offset stride dim) offs = stride *ℤ pos (get_or offs dim 0)
along (Indexed offset stride sizes entries) offs = pos 0

-- the index along a dimension, from the lower bound on
index-from : (box : List Bounds) (cell : List ℤ) (dim : ℕ) → IsCell box cell → dim < length box
    → get_or cell dim (pos 0) ≡ get_or (lows box) dim (pos 0) +ℤ pos (get_or (from_lows box cell) dim 0)
index-from [] cell dim c h = absurd (omega (arith, h))
index-from (b ∷ box) [] dim c h = absurd c
index-from (b ∷ box) (x ∷ cell) zero c h = let above = c.0 in omega (arith, ints, above)
index-from (b ∷ box) (x ∷ cell) (suc dim) c h = index-from box cell dim c.2 (omega (arith, h))

-- the map goes from one of so many dimensions, without an index array
abbrev pub goes_from : ℕ → OutMap → Type 0
goes_from rank (Constant offset) = Unit {0}
goes_from rank (Strided offset stride dim) = dim < rank
goes_from rank (Indexed offset stride sizes entries) = ⊥

pub value-from : (m : OutMap) (box : List Bounds) (cell : List ℤ) → goes_from (length box) m → IsCell box cell
    → map_value [] cell m ≡ map_value [] (lows box) m +ℤ along m (from_lows box cell)
value-from (Constant offset) box cell g c = omega (arith, ints)
value-from (Strided offset stride dim) box cell g c =
    let e = index-from box cell dim c g in
    let a = get_or (lows box) dim (pos 0) in
    let k = pos (get_or (from_lows box cell) dim 0) in
    let d : stride *ℤ (a +ℤ k) ≡ stride *ℤ a +ℤ stride *ℤ k = *ℤ_comm stride (a +ℤ k) ∙ add-*ℤ a k stride ∙ ap (λ z. z +ℤ k *ℤ stride) (*ℤ_comm a stride) ∙ ap (λ z. stride *ℤ a +ℤ z) (*ℤ_comm k stride) in
    let f : stride *ℤ get_or cell dim (pos 0) ≡ stride *ℤ a +ℤ stride *ℤ k = ap (λ z. stride *ℤ z) e ∙ d in
    omega (arith, ints, f)
value-from (Indexed offset stride sizes entries) box cell g c = absurd g

-- how far the place in a chunk goes, output by output
abbrev pub total : List OutMap → List ℕ → List ℕ → ℤ
total [] chunk offs = pos 0
total (m ∷ maps) [] offs = pos 0
total (m ∷ maps) (n ∷ chunk) offs = along m offs *ℤ pos (cell_count chunk) +ℤ total maps chunk offs

-- within one chunk numbers go as far as the places in it
pos-mul : (a b : ℕ) → pos (a * b) ≡ pos a *ℤ pos b
pos-mul a b = refl

within-from : (x y : ℤ) (n : ℕ) (by : ℤ) → 0 < n → pos 0 ≤ℤ x → pos 0 ≤ℤ y → x ≡ y +ℤ by → unsigned_abs x / n ≡ unsigned_abs y / n
    → pos (unsigned_abs x % n) ≡ pos (unsigned_abs y % n) +ℤ by
within-from x y n by some hx hy e same =
    let a = div-add-mod' (unsigned_abs x) n in
    let b = div-add-mod' (unsigned_abs y) n in
    let c : unsigned_abs x / n * n ≡ unsigned_abs y / n * n = ap (λ q. q * n) same in
    omega (arith, ints, a, b, c, hx, hy, e)

abbrev pub EachGoes : ℕ → List OutMap → Type 0
EachGoes rank [] = Unit {0}
EachGoes rank (m ∷ maps) = goes_from rank m × EachGoes rank maps

abbrev pub ArePositive : List ℕ → Type 0
ArePositive [] = Unit {0}
ArePositive (n ∷ chunk) = (0 < n) × ArePositive chunk

pub places-from : (maps : List OutMap) (chunk : List ℕ) (box : List Bounds) (cell : List ℤ) → EachGoes (length box) maps → ArePositive chunk → length maps ≡ length chunk
    → IsCell box cell → AreFromZero (map (map_value [] cell) maps) → AreFromZero (map (map_value [] (lows box)) maps)
    → chunk_index chunk (numbers (map (map_value [] cell) maps)) ≡ chunk_index chunk (numbers (map (map_value [] (lows box)) maps))
    → pos (place_within chunk (numbers (map (map_value [] cell) maps)))
    ≡ pos (place_within chunk (numbers (map (map_value [] (lows box)) maps))) +ℤ total maps chunk (from_lows box cell)
places-from [] [] box cell g p l c zx zy same = omega (arith, ints)
places-from [] (n ∷ chunk) box cell g p l c zx zy same = absurd (omega (arith, l))
places-from (m ∷ maps) [] box cell g p l c zx zy same = absurd (omega (arith, l))
places-from (m ∷ maps) (n ∷ chunk) box cell g p l c zx zy same =
    let heads : unsigned_abs (map_value [] cell m) / n ≡ unsigned_abs (map_value [] (lows box) m) / n = cc in
    let tails : chunk_index chunk (numbers (map (map_value [] cell) maps)) ≡ chunk_index chunk (numbers (map (map_value [] (lows box)) maps)) = cc in
    let r = places-from maps chunk box cell g.1 p.1 (omega (arith, l)) c zx.1 zy.1 tails in
    let w = within-from (map_value [] cell m) (map_value [] (lows box) m) n (along m (from_lows box cell)) p.0 zx.0 zy.0 (value-from m box cell g.0 c) heads in
    let a = unsigned_abs (map_value [] cell m) % n in
    let b = unsigned_abs (map_value [] (lows box) m) % n in
    let k = cell_count chunk in
    let d : pos a *ℤ pos k ≡ pos b *ℤ pos k +ℤ along m (from_lows box cell) *ℤ pos k = ap (λ z. z *ℤ pos k) w ∙ add-*ℤ (pos b) (along m (from_lows box cell)) (pos k) in
    let e : pos (a * k) ≡ pos a *ℤ pos k = pos-mul a k in
    let f : pos (b * k) ≡ pos b *ℤ pos k = pos-mul b k in
    omega (arith, ints, r, d, e, f)

-- The same by steps.

added-at : (dim : ℕ) (by : ℤ) (steps : List ℤ) (offs : List ℕ) → length steps ≡ length offs → dim < length steps
    → at_chunk (added_along dim by steps) offs ≡ at_chunk steps offs +ℤ by *ℤ pos (get_or offs dim 0)
added-at dim by [] offs l h = absurd (omega (arith, h))
added-at dim by (c ∷ steps) [] l h = absurd (omega (arith, l))
added-at zero by (c ∷ steps) (o ∷ offs) l h =
    let d = add-*ℤ c by (pos o) in
    omega (arith, ints, d)
added-at (suc dim) by (c ∷ steps) (o ∷ offs) l h =
    let r = added-at dim by steps offs (omega (arith, l)) (omega (arith, h)) in
    omega (arith, ints, r)

length-added : (dim : ℕ) (by : ℤ) (steps : List ℤ) → length (added_along dim by steps) ≡ length steps
length-added dim by [] = refl
length-added zero by (c ∷ steps) = refl
length-added (suc dim) by (c ∷ steps) = ap suc (length-added dim by steps)

length-added_by : (m : OutMap) (width : ℕ) (steps : List ℤ) → length (added_by m width steps) ≡ length steps
length-added_by (Constant offset) width steps = refl
length-added_by (Strided offset stride dim) width steps = length-added dim (stride *ℤ pos width) steps
length-added_by (Indexed offset stride sizes entries) width steps = refl

length-zeros : (rank : ℕ) → length (replicate rank (pos 0)) ≡ rank
length-zeros zero = refl
length-zeros (suc rank) = ap suc (length-zeros rank)

pub length-chunk_steps : (rank : ℕ) (maps : List OutMap) (chunk : List ℕ) → length (chunk_steps rank maps chunk) ≡ rank
length-chunk_steps rank [] chunk = length-zeros rank
length-chunk_steps rank (m ∷ maps) [] = length-zeros rank
length-chunk_steps rank (m ∷ maps) (n ∷ chunk) = length-added_by m (cell_count chunk) (chunk_steps rank maps chunk) ∙ length-chunk_steps rank maps chunk

at-zeros : (rank : ℕ) (offs : List ℕ) → at_chunk (replicate rank (pos 0)) offs ≡ pos 0
at-zeros zero offs = refl
at-zeros (suc rank) [] = refl
at-zeros (suc rank) (o ∷ offs) = let r = at-zeros rank offs in let z = zero-*ℤ (pos o) in omega (arith, ints, r, z)

added_by-at : (m : OutMap) (width : ℕ) (steps : List ℤ) (offs : List ℕ) → length steps ≡ length offs → goes_from (length offs) m
    → at_chunk (added_by m width steps) offs ≡ at_chunk steps offs +ℤ along m offs *ℤ pos width
added_by-at (Constant offset) width steps offs l g = let z = zero-*ℤ (pos width) in omega (arith, ints, z)
added_by-at (Strided offset stride dim) width steps offs l g =
    let r = added-at dim (stride *ℤ pos width) steps offs l (omega (arith, l, g)) in
    let k = pos (get_or offs dim 0) in
    let e : (stride *ℤ pos width) *ℤ k ≡ (stride *ℤ k) *ℤ pos width =
    *ℤ_assoc stride (pos width) k ∙ ap (λ z. stride *ℤ z) (*ℤ_comm (pos width) k) ∙ sym (*ℤ_assoc stride k (pos width)) in
    omega (arith, ints, r, e)
added_by-at (Indexed offset stride sizes entries) width steps offs l g = absurd g

pub total-steps : (maps : List OutMap) (chunk : List ℕ) (offs : List ℕ) → EachGoes (length offs) maps → total maps chunk offs ≡ at_chunk (chunk_steps (length offs) maps chunk) offs
total-steps [] chunk offs g = sym (at-zeros (length offs) offs)
total-steps (m ∷ maps) [] offs g = sym (at-zeros (length offs) offs)
total-steps (m ∷ maps) (n ∷ chunk) offs g =
    let r = total-steps maps chunk offs g.1 in
    let a = added_by-at m (cell_count chunk) (chunk_steps (length offs) maps chunk) offs (length-chunk_steps (length offs) maps chunk) g.0 in
    omega (arith, ints, r, a)
