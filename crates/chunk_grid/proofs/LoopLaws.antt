-- The cells of dimensions as nested loops.
use Rattle.std.proofs.Common.{◌≡◌, ◌∙◌, ℕ, zero, suc, ◌+◌, ◌*◌, ℤ, pos, ◌+ℤ◌, ◌-ℤ◌, ◌*ℤ◌, unsigned_abs, List, [], ◌∷◌, ◌++◌, length, map, refl, ap, arith}
use Rattle.std.specs.List.{flat_map, range_with_len}
use Rattle.std.proofs.lemmas.List.{map-append}
use Rattle.std.proofs.lemmas.Int.{ints}
use Rattle.index_intervals.specs.Bounds.{Bounds}
use Rattle.index_transform.specs.Cells.{counting, members_of, cells_of}
use Rattle.index_transform.specs.Maps.{size_of}
use Rattle.chunk_grid.specs.Pieces.{Pair}
use Rattle.chunk_grid.specs.Boxes.{from_lows, looped, loops_of}

-- numbers one after another are those so far from the first
pub counting-range : (x : ℤ) (j n : ℕ) → counting (x +ℤ pos j) n ≡ map (λ k. x +ℤ pos k) (range_with_len j n)
counting-range x j zero = refl
counting-range x j (suc n) =
    let z : x +ℤ pos j +ℤ pos 1 ≡ x +ℤ pos (j + 1) = omega (arith, ints) in
    ap (λ ys. (x +ℤ pos j) ∷ ys) (ap (λ y. counting y n) z ∙ counting-range x (j + 1) n)

pub members-range : (dim : Bounds) → members_of dim ≡ map (λ k. dim.lo +ℤ pos k) (range_with_len 0 (size_of dim))
members-range dim = (let z : dim.lo ≡ dim.lo +ℤ pos 0 = omega (arith, ints) in ap (λ x. counting x (size_of dim)) z) ∙ counting-range dim.lo 0 (size_of dim)

-- lists that are mapped and joined
pub flat_map-map : {X Y Z : Type 0} (f : Y → List Z) (g : X → Y) (xs : List X) → flat_map f (map g xs) ≡ flat_map (λ x. f (g x)) xs
flat_map-map f g [] = refl
flat_map-map f g (x ∷ xs) = ap (λ ys. f (g x) ++ ys) (flat_map-map f g xs)

pub map-flat_map : {X Y Z : Type 0} (f : Y → Z) (g : X → List Y) (xs : List X) → map f (flat_map g xs) ≡ flat_map (λ x. map f (g x)) xs
map-flat_map f g [] = refl
map-flat_map f g (x ∷ xs) = map-append f (g x) (flat_map g xs) ∙ ap (λ ys. map f (g x) ++ ys) (map-flat_map f g xs)

pub map-map : {X Y Z : Type 0} (f : Y → Z) (g : X → Y) (xs : List X) → map f (map g xs) ≡ map (λ x. f (g x)) xs
map-map f g [] = refl
map-map f g (x ∷ xs) = ap (λ ys. f (g x) ∷ ys) (map-map f g xs)

-- functions that agree map alike
pub map-alike : {X Y : Type 0} (f g : X → Y) → ((x : X) → f x ≡ g x) → (xs : List X) → map f xs ≡ map g xs
map-alike f g h [] = refl
map-alike f g h (x ∷ xs) = ap (λ y. y ∷ map f xs) (h x) ∙ ap (λ ys. g x ∷ ys) (map-alike f g h xs)

pub flat_map-alike : {X Y : Type 0} (f g : X → List Y) → ((x : X) → f x ≡ g x) → (xs : List X) → flat_map f xs ≡ flat_map g xs
flat_map-alike f g h [] = refl
flat_map-alike f g h (x ∷ xs) = ap (λ y. y ++ flat_map f xs) (h x) ∙ ap (λ ys. g x ++ ys) (flat_map-alike f g h xs)

-- the cells of a first dimension and others
pub cells-range : (dim : Bounds) (dims : List Bounds) → cells_of (dim ∷ dims) ≡ flat_map (λ k. map (λ cell. (dim.lo +ℤ pos k) ∷ cell) (cells_of dims)) (range_with_len 0 (size_of dim))
cells-range dim dims =
    ap (flat_map (λ x. map (λ cell. x ∷ cell) (cells_of dims))) (members-range dim)
    ∙ flat_map-map (λ x. map (λ cell. x ∷ cell) (cells_of dims)) (λ k. dim.lo +ℤ pos k) (range_with_len 0 (size_of dim))

-- how far a place goes by the indices from the lower bounds on
abbrev pub at_view : List ℕ → List ℕ → ℕ
at_view [] offs = 0
at_view (v ∷ steps) [] = 0
at_view (v ∷ steps) (o ∷ offs) = v * o + at_view steps offs

abbrev pub at_chunk : List ℤ → List ℕ → ℤ
at_chunk [] offs = pos 0
at_chunk (c ∷ steps) [] = pos 0
at_chunk (c ∷ steps) (o ∷ offs) = c *ℤ pos o +ℤ at_chunk steps offs

-- the pair of a cell
abbrev pub pair_from : List Bounds → List ℕ → List ℤ → ℕ → ℤ → List ℤ → Pair
pair_from dims views chunks view chunk cell = record { view = view + at_view views (from_lows dims cell); chunk = unsigned_abs (chunk +ℤ at_chunk chunks (from_lows dims cell)) }

-- the pairs of the cells are those of nested loops
pub cells-looped : (dims : List Bounds) (views : List ℕ) (chunks : List ℤ) (view : ℕ) (chunk : ℤ) → length views ≡ length dims → length chunks ≡ length dims
    → map (pair_from dims views chunks view chunk) (cells_of dims) ≡ looped (loops_of dims views chunks) view chunk
cells-looped [] [] [] view chunk lv lc =
    let a : view + 0 ≡ view = omega arith in
    let b : chunk +ℤ pos 0 ≡ chunk = omega (arith, ints) in
    rw (a, b) refl
cells-looped [] (v ∷ views) chunks view chunk lv lc = absurd (omega (arith, lv))
cells-looped [] [] (c ∷ chunks) view chunk lv lc = absurd (omega (arith, lc))
cells-looped (dim ∷ dims) [] chunks view chunk lv lc = absurd (omega (arith, lv))
cells-looped (dim ∷ dims) (v ∷ views) [] view chunk lv lc = absurd (omega (arith, lc))
cells-looped (dim ∷ dims) (v ∷ views) (c ∷ chunks) view chunk lv lc =
    let f = pair_from (dim ∷ dims) (v ∷ views) (c ∷ chunks) view chunk in
    ap (map f) (cells-range dim dims)
    ∙ map-flat_map f (λ k. map (λ cell. (dim.lo +ℤ pos k) ∷ cell) (cells_of dims)) (range_with_len 0 (size_of dim))
    ∙ flat_map-alike (λ k. map f (map (λ cell. (dim.lo +ℤ pos k) ∷ cell) (cells_of dims))) (λ k. looped (loops_of dims views chunks) (view + v * k) (chunk +ℤ c *ℤ pos k))
    (λ k. map-map f (λ cell. (dim.lo +ℤ pos k) ∷ cell) (cells_of dims)
    ∙ map-alike (λ cell. f ((dim.lo +ℤ pos k) ∷ cell)) (pair_from dims views chunks (view + v * k) (chunk +ℤ c *ℤ pos k)) (λ cell. one k cell) (cells_of dims)
    ∙ cells-looped dims views chunks (view + v * k) (chunk +ℤ c *ℤ pos k) (omega (arith, lv)) (omega (arith, lc)))
    (range_with_len 0 (size_of dim))
  where
    one : (k : ℕ) (cell : List ℤ) → pair_from (dim ∷ dims) (v ∷ views) (c ∷ chunks) view chunk ((dim.lo +ℤ pos k) ∷ cell) ≡ pair_from dims views chunks (view + v * k) (chunk +ℤ c *ℤ pos k) cell
    one k cell =
        let off : unsigned_abs (dim.lo +ℤ pos k -ℤ dim.lo) ≡ k = omega (arith, ints) in
        let rest = at_view views (from_lows dims cell) in
        let more = at_chunk chunks (from_lows dims cell) in
        let a : view + (v * k + rest) ≡ (view + v * k) + rest = omega arith in
        let b : chunk +ℤ (c *ℤ pos k +ℤ more) ≡ (chunk +ℤ c *ℤ pos k) +ℤ more = omega (arith, ints) in
        rw (off, a, b) refl
