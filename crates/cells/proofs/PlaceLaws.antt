-- Laws of places: inside, in range, and inverse to each other, in both orders.
use Rattle.std.proofs.Common.{◌≡◌, ℕ, zero, suc, ◌+◌, ◌*◌, ◌/◌, ◌%◌, ◌<◌, List, [], ◌∷◌, length, slice_index, drop, refl, sym, ◌∙◌, ap, arith}
use Rattle.std.proofs.lemmas.Nat.{mul-add-lt, div-mul-add, mod-mul-add, div_below, mod_below, div-add-mod'}
use Rattle.std.proofs.Math.Nat.{mul_comm, mul-pos}
use Rattle.cells.specs.Places.{cell_count, IsInside, c_place, f_place, c_index, f_index, place_of, index_at}
use Rattle.cells.specs.declared.order.Order.{Order}
use Rattle.cells.specs.declared.order.Order.TheVariants.{C, F}

-- an index vector inside has one index per size
pub IsInside-length : (shape index : List ℕ) → IsInside shape index → length index ≡ length shape
IsInside-length [] [] inside = refl
IsInside-length [] (i ∷ index) inside = absurd inside
IsInside-length (size ∷ shape) [] inside = absurd inside
IsInside-length (size ∷ shape) (i ∷ index) inside = ap suc (IsInside-length shape index inside.1)

-- a place lies below the number of cells
pub c_place-lt : (shape index : List ℕ) → IsInside shape index → c_place shape index < cell_count shape
c_place-lt [] [] inside = omega arith
c_place-lt [] (i ∷ index) inside = absurd inside
c_place-lt (size ∷ shape) [] inside = absurd inside
c_place-lt (size ∷ shape) (i ∷ index) inside =
    rw (mul_comm size (cell_count shape)) (mul-add-lt i (cell_count shape) (c_place shape index) size inside.0 (c_place-lt shape index inside.1))

pub f_place-lt : (shape index : List ℕ) → IsInside shape index → f_place shape index < cell_count shape
f_place-lt [] [] inside = omega arith
f_place-lt [] (i ∷ index) inside = absurd inside
f_place-lt (size ∷ shape) [] inside = absurd inside
f_place-lt (size ∷ shape) (i ∷ index) inside =
    let bound = mul-add-lt (f_place shape index) size i (cell_count shape) (f_place-lt shape index inside.1) inside.0 in
    omega (arith, bound, mul_comm size (f_place shape index))

-- the index vector at the place of an index vector is that one
pub c_index-c_place : (shape index : List ℕ) → IsInside shape index → c_index shape (c_place shape index) ≡ index
c_index-c_place [] [] inside = refl
c_index-c_place [] (i ∷ index) inside = absurd inside
c_index-c_place (size ∷ shape) [] inside = absurd inside
c_index-c_place (size ∷ shape) (i ∷ index) inside =
    let below = c_place-lt shape index inside.1 in
    rw (div-mul-add i (cell_count shape) (c_place shape index) below, mod-mul-add i (cell_count shape) (c_place shape index) below)
    (ap (λ rest. i ∷ rest) (c_index-c_place shape index inside.1))

pub f_index-f_place : (shape index : List ℕ) → IsInside shape index → f_index shape (f_place shape index) ≡ index
f_index-f_place [] [] inside = refl
f_index-f_place [] (i ∷ index) inside = absurd inside
f_index-f_place (size ∷ shape) [] inside = absurd inside
f_index-f_place (size ∷ shape) (i ∷ index) inside =
    let turned : i + size * f_place shape index ≡ f_place shape index * size + i = omega (arith, mul_comm size (f_place shape index)) in
    rw (turned, div-mul-add (f_place shape index) size i inside.0, mod-mul-add (f_place shape index) size i inside.0)
    (ap (λ rest. i ∷ rest) (f_index-f_place shape index inside.1))

-- cells below a product are below its second factor's multiple
rest_above : (size count place : ℕ) → place < size * count → 0 < count
rest_above size zero place below = absurd (omega (arith, mul_comm size zero))
rest_above size (suc count) place below = omega arith

first_above : (size count place : ℕ) → place < size * count → 0 < size
first_above zero count place below = absurd (omega arith)
first_above (suc size) count place below = omega arith

-- the index vector at a place below the number of cells lies inside
pub IsInside-c_index : (shape : List ℕ) (place : ℕ) → place < cell_count shape → IsInside shape (c_index shape place)
IsInside-c_index [] place below = tt
IsInside-c_index (size ∷ shape) place below =
    let above = rest_above size (cell_count shape) place below in
    (div_below place (cell_count shape) size above below, IsInside-c_index shape (place % cell_count shape) (mod_below place (cell_count shape) above))

pub IsInside-f_index : (shape : List ℕ) (place : ℕ) → place < cell_count shape → IsInside shape (f_index shape place)
IsInside-f_index [] place below = tt
IsInside-f_index (size ∷ shape) place below =
    let above = first_above size (cell_count shape) place below in
    (mod_below place size above, IsInside-f_index shape (place / size) (div_below place size (cell_count shape) above (rw (mul_comm (cell_count shape) size) below)))

-- the place of the index vector at a place is that place
pub c_place-c_index : (shape : List ℕ) (place : ℕ) → place < cell_count shape → c_place shape (c_index shape place) ≡ place
c_place-c_index [] place below = omega arith
c_place-c_index (size ∷ shape) place below =
    let above = rest_above size (cell_count shape) place below in
    ap (λ rest. place / cell_count shape * cell_count shape + rest) (c_place-c_index shape (place % cell_count shape) (mod_below place (cell_count shape) above))
    ∙ div-add-mod' place (cell_count shape)

pub f_place-f_index : (shape : List ℕ) (place : ℕ) → place < cell_count shape → f_place shape (f_index shape place) ≡ place
f_place-f_index [] place below = omega arith
f_place-f_index (size ∷ shape) place below =
    let above = first_above size (cell_count shape) place below in
    ap (λ rest. place % size + size * rest) (f_place-f_index shape (place / size) (div_below place size (cell_count shape) above (rw (mul_comm (cell_count shape) size) below)))
    ∙ omega (arith, div-add-mod' place size, mul_comm size (place / size))

-- the same in either order
pub place_of-lt : (shape : List ℕ) (order : Order) (index : List ℕ) → IsInside shape index → place_of shape order index < cell_count shape
place_of-lt shape C index = c_place-lt shape index
place_of-lt shape F index = f_place-lt shape index

pub index_at-place_of : (shape : List ℕ) (order : Order) (index : List ℕ) → IsInside shape index → index_at shape order (place_of shape order index) ≡ index
index_at-place_of shape C index = c_index-c_place shape index
index_at-place_of shape F index = f_index-f_place shape index

pub IsInside-index_at : (shape : List ℕ) (order : Order) (place : ℕ) → place < cell_count shape → IsInside shape (index_at shape order place)
IsInside-index_at shape C place = IsInside-c_index shape place
IsInside-index_at shape F place = IsInside-f_index shape place

pub place_of-index_at : (shape : List ℕ) (order : Order) (place : ℕ) → place < cell_count shape → place_of shape order (index_at shape order place) ≡ place
place_of-index_at shape C place = c_place-c_index shape place
place_of-index_at shape F place = f_place-f_index shape place

-- two index vectors inside with one place are one
pub same_from_place_of : (shape : List ℕ) (order : Order) (one other : List ℕ) → IsInside shape one → IsInside shape other
    → place_of shape order one ≡ place_of shape order other → one ≡ other
same_from_place_of shape order one other p q same =
    sym (index_at-place_of shape order one p) ∙ ap (index_at shape order) same ∙ index_at-place_of shape order other q

-- a shape without a size of 0 has a cell
pub cell_count-pos : (shape : List ℕ) → ((k : ℕ) → k < length shape → 0 < slice_index shape k) → 0 < cell_count shape
cell_count-pos [] each = omega arith
cell_count-pos (size ∷ shape) each =
    let first : 0 < size = each 0 (omega arith) in
    let rest = cell_count-pos shape (λ k within. each (suc k) (omega arith)) in
    mul-pos first rest

-- an index vector inside: each index is below its size
pub IsInside-below : (shape index : List ℕ) (k : ℕ) → IsInside shape index → k < length shape → slice_index index k < slice_index shape k
IsInside-below [] index k inside within = absurd (omega arith)
IsInside-below (size ∷ shape) [] k inside within = absurd inside
IsInside-below (size ∷ shape) (i ∷ index) zero inside within = inside.0
IsInside-below (size ∷ shape) (i ∷ index) (suc k) inside within = IsInside-below shape index k inside.1 (omega arith)

-- and that is all
pub IsInside-from_below : (shape index : List ℕ) → length index ≡ length shape → ((k : ℕ) → k < length shape → slice_index index k < slice_index shape k)
    → IsInside shape index
IsInside-from_below [] [] same below = tt
IsInside-from_below [] (i ∷ index) same below = absurd (omega (arith, same))
IsInside-from_below (size ∷ shape) [] same below = absurd (omega (arith, same))
IsInside-from_below (size ∷ shape) (i ∷ index) same below =
    (below 0 (omega arith), IsInside-from_below shape index (omega (arith, same)) (λ k within. below (suc k) (omega arith)))

-- the indices from k on lie inside the sizes from k on
pub IsInside-drop : (k : ℕ) (shape index : List ℕ) → IsInside shape index → IsInside (drop k shape) (drop k index)
IsInside-drop zero shape index inside = inside
IsInside-drop (suc k) [] [] inside = tt
IsInside-drop (suc k) [] (i ∷ index) inside = absurd inside
IsInside-drop (suc k) (size ∷ shape) [] inside = absurd inside
IsInside-drop (suc k) (size ∷ shape) (i ∷ index) inside = IsInside-drop k shape index inside.1

-- the laws by which a place and its index vector are told from each other
pub ruleset places = (c_place-lt, f_place-lt, c_index-c_place, f_index-f_place, IsInside-c_index, IsInside-f_index, c_place-c_index, f_place-f_index)
