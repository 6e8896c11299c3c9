-- The steps of the loops over a shape's dimensions.
use Rattle.std.proofs.Common.{◌≡◌, ℕ, zero, suc, true, false, nat_eq, add-one, ◌+◌, ◌*◌, ◌/◌, ◌%◌, ◌<◌, ◌≤◌, List, [], ◌∷◌, length, slice_index, drop, refl, sym, ◌∙◌, ap, subst, arith}
use Rattle.std.proofs.Math.Nat.{mul_comm, mul_assoc, mul-pos, le-mul_of_pos_right, div-div-eq-div-mul, add-mul, suc-mul, add-mul-div_right, add-mul-mod_self_right, mod-eq_of_lt}
use Rattle.std.proofs.Math.Seq.{drop-cons}
use Rattle.std.proofs.lemmas.Bool.Decides.{nat_tests}
use Rattle.std.proofs.lemmas.List.{drop-set}
use Rattle.std.specs.List.{list_any}
use Rattle.std.proofs.lemmas.Nat.{div-add-mod', mod_below, div_below}
use Rattle.std.specs.Prelude.{slice_set}
use Rattle.cells.specs.Places.{cell_count, IsInside, c_place, f_place, c_index}
use Rattle.cells.proofs.PlaceLaws.{IsInside-length, IsInside-drop, c_place-lt, f_place-lt}

factor-pos : (m n : ℕ) → 0 < m * n → 0 < n
factor-pos m zero above = absurd (omega (arith, mul_comm m zero))
factor-pos m (suc n) above = omega arith

-- a shape with a cell has no size of 0
pub sizes-pos : (shape : List ℕ) (k : ℕ) → 0 < cell_count shape → k < length shape → 0 < slice_index shape k
sizes-pos [] k above within = absurd (omega arith)
sizes-pos (zero ∷ shape) k above within = absurd (omega arith)
sizes-pos (suc size ∷ shape) zero above within = omega arith
sizes-pos (suc size ∷ shape) (suc k) above within = sizes-pos shape k (factor-pos (suc size) (cell_count shape) above) (omega arith)

-- a shape inside which an index vector lies has a cell
pub IsInside-pos : (shape index : List ℕ) → IsInside shape index → 0 < cell_count shape
IsInside-pos shape index inside = let below = c_place-lt shape index inside in omega arith

-- one dimension more, from the front
pub cell_count-from : (shape : List ℕ) (k : ℕ) → k < length shape → cell_count (drop k shape) ≡ slice_index shape k * cell_count (drop (suc k) shape)
cell_count-from shape k within = ap cell_count (drop-cons shape k 0 within)

pub c_place-from : (shape index : List ℕ) (k : ℕ) → k < length shape → length index ≡ length shape
    → c_place (drop k shape) (drop k index) ≡ slice_index index k * cell_count (drop (suc k) shape) + c_place (drop (suc k) shape) (drop (suc k) index)
c_place-from shape index k within same = rw (drop-cons shape k 0 within, drop-cons index k 0 (rw same within)) refl

pub f_place-from : (shape index : List ℕ) (k : ℕ) → k < length shape → length index ≡ length shape
    → f_place (drop k shape) (drop k index) ≡ slice_index index k + slice_index shape k * f_place (drop (suc k) shape) (drop (suc k) index)
f_place-from shape index k within same = rw (drop-cons shape k 0 within, drop-cons index k 0 (rw same within)) refl

-- the dimensions from k on have at most as many cells
pub cell_count-drop : (k : ℕ) (shape : List ℕ) → 0 < cell_count shape → cell_count (drop k shape) ≤ cell_count shape
cell_count-drop zero shape above = omega arith
cell_count-drop (suc k) [] above = omega arith
cell_count-drop (suc k) (zero ∷ shape) above = absurd (omega arith)
cell_count-drop (suc k) (suc size ∷ shape) above =
    omega (arith, cell_count-drop k shape (factor-pos (suc size) (cell_count shape) above), suc-mul size (cell_count shape))

cell_count-drop-pos : (k : ℕ) (shape : List ℕ) → 0 < cell_count shape → 0 < cell_count (drop k shape)
cell_count-drop-pos zero shape above = above
cell_count-drop-pos (suc k) [] above = omega arith
cell_count-drop-pos (suc k) (size ∷ shape) above = cell_count-drop-pos k shape (factor-pos size (cell_count shape) above)

-- a factor is at most the whole
factor_le : (a c p total : ℕ) → 0 < c → a * c + p ≡ total → a ≤ total
factor_le a c p total above is = omega (arith, le-mul_of_pos_right {m = c} a above)

one_more_row : (place size count i p : ℕ) → place * (size * count) + (i * count + p) ≡ (place * size + i) * count + p
one_more_row place size count i p = omega (arith, mul_assoc place size count, add-mul (place * size) i count)

-- one step of the place in C order
pub c_place-step : (shape index : List ℕ) (k place : ℕ) → IsInside shape index → k < length shape
    → place * cell_count (drop k shape) + c_place (drop k shape) (drop k index) ≡ c_place shape index
    → (place * slice_index shape k + slice_index index k) * cell_count (drop (suc k) shape) + c_place (drop (suc k) shape) (drop (suc k) index) ≡ c_place shape index
c_place-step shape index k place inside within so_far =
    let same = IsInside-length shape index inside in
    sym (one_more_row place (slice_index shape k) (cell_count (drop (suc k) shape)) (slice_index index k) (c_place (drop (suc k) shape) (drop (suc k) index)))
    ∙ sym (ap (λ n. place * n + (slice_index index k * cell_count (drop (suc k) shape) + c_place (drop (suc k) shape) (drop (suc k) index))) (cell_count-from shape k within))
    ∙ sym (ap (λ n. place * cell_count (drop k shape) + n) (c_place-from shape index k within same))
    ∙ so_far

-- which stays below the number of cells
pub c_place-bound : (shape index : List ℕ) (k place : ℕ) → IsInside shape index → k < length shape
    → place * cell_count (drop k shape) + c_place (drop k shape) (drop k index) ≡ c_place shape index
    → place * slice_index shape k + slice_index index k < cell_count shape
c_place-bound shape index k place inside within so_far =
    let step = c_place-step shape index k place inside within so_far in
    let above = cell_count-drop-pos (suc k) shape (IsInside-pos shape index inside) in
    let below = c_place-lt shape index inside in
    let part = factor_le _ (cell_count (drop (suc k) shape)) _ _ above step in
    omega arith

-- one step of the place in F order, where `next` is `suc k`
pub f_place-step : (shape index : List ℕ) (k next place : ℕ) → next ≡ suc k → IsInside shape index → k < length shape
    → place ≡ f_place (drop next shape) (drop next index)
    → place * slice_index shape k + slice_index index k ≡ f_place (drop k shape) (drop k index)
f_place-step shape index k next place turn inside within so_far =
    let same = IsInside-length shape index inside in
    let here : place ≡ f_place (drop (suc k) shape) (drop (suc k) index) = subst (λ n. place ≡ f_place (drop n shape) (drop n index)) turn so_far in
    let from = f_place-from shape index k within same in
    omega (arith, from, here, ap (λ n. n * slice_index shape k) here, mul_comm (slice_index shape k) (f_place (drop (suc k) shape) (drop (suc k) index)))

-- which stays below the number of cells
pub f_place-bound : (shape index : List ℕ) (k next place : ℕ) → next ≡ suc k → IsInside shape index → k < length shape
    → place ≡ f_place (drop next shape) (drop next index)
    → place * slice_index shape k + slice_index index k < cell_count shape
f_place-bound shape index k next place turn inside within so_far =
    let step = f_place-step shape index k next place turn inside within so_far in
    let below = f_place-lt (drop k shape) (drop k index) (IsInside-drop k shape index inside) in
    let less = cell_count-drop k shape (IsInside-pos shape index inside) in
    omega arith

-- the digits of a number by a product of bases
mod-mul-div : (place size count : ℕ) → 0 < size → 0 < count → place % (size * count) / count ≡ place / count % size
mod-mul-div place size count size_pos count_pos =
    let whole = size * count in
    let rest = place % whole in
    let turns = place / whole in
    let split : rest + turns * size * count ≡ place = omega (arith, div-add-mod' place whole, mul_assoc turns size count) in
    let quotient : place / count ≡ rest / count + turns * size = ap (λ n. n / count) (sym split) ∙ add-mul-div_right rest (turns * size) count_pos in
    let below : rest / count < size = div_below rest count size count_pos (mod_below place whole (mul-pos size_pos count_pos)) in
    sym (ap (λ n. n % size) quotient ∙ add-mul-mod_self_right (rest / count) turns size ∙ mod-eq_of_lt below)

mod-mul-mod : (place size count : ℕ) → place % (size * count) % count ≡ place % count
mod-mul-mod place size count =
    let whole = size * count in
    let rest = place % whole in
    let turns = place / whole in
    let split : rest + turns * size * count ≡ place = omega (arith, div-add-mod' place whole, mul_assoc turns size count) in
    sym (ap (λ n. n % count) (sym split) ∙ add-mul-mod_self_right rest (turns * size) count)

-- one step of the index vector in C order, where `next` is `suc k`
pub c_index-step : (shape out : List ℕ) (k next place rest : ℕ) → next ≡ suc k → 0 < cell_count shape → k < length shape → length out ≡ length shape
    → rest ≡ place / cell_count (drop next shape)
    → drop next out ≡ c_index (drop next shape) (place % cell_count (drop next shape))
    → (rest / slice_index shape k ≡ place / cell_count (drop k shape))
    × (drop k (slice_set out k (rest % slice_index shape k)) ≡ c_index (drop k shape) (place % cell_count (drop k shape)))
c_index-step shape out k next place rest turn above within same quotient done =
    let size = slice_index shape k in
    let count = cell_count (drop (suc k) shape) in
    let size_pos = sizes-pos shape k above within in
    let count_pos = cell_count-drop-pos (suc k) shape above in
    let quotient' : rest ≡ place / count = subst (λ n. rest ≡ place / cell_count (drop n shape)) turn quotient in
    let done' : drop (suc k) out ≡ c_index (drop (suc k) shape) (place % count) = subst (λ n. drop n out ≡ c_index (drop n shape) (place % cell_count (drop n shape))) turn done in
    let digit : rest % size ≡ place % (size * count) / count = ap (λ n. n % size) quotient' ∙ sym (mod-mul-div place size count size_pos count_pos) in
    let less : rest / size ≡ place / (size * count) =
    ap (λ n. n / size) quotient' ∙ div-div-eq-div-mul place count size ∙ ap (λ n. place / n) (mul_comm count size) in (
      less ∙ ap (λ n. place / n) (sym (cell_count-from shape k within)),
      drop-set out k (rest % size) (rw same within)
          ∙ ap (λ n. rest % size ∷ drop n out) (add-one k)
          ∙ ap (λ xs. rest % size ∷ xs) done'
          ∙ ap (λ n. n ∷ c_index (drop (suc k) shape) (place % count)) digit
          ∙ ap (λ n. place % (size * count) / count ∷ c_index (drop (suc k) shape) n) (sym (mod-mul-mod place size count))
          ∙ sym (ap (λ sh. c_index sh (place % cell_count sh)) (drop-cons shape k 0 within)),
    )

-- after the last step
pub c_index-whole : (shape out : List ℕ) (k place : ℕ) → k ≤ 0 → place < cell_count shape
    → drop k out ≡ c_index (drop k shape) (place % cell_count (drop k shape)) → out ≡ c_index shape place
c_index-whole shape out zero place end below done = done ∙ ap (c_index shape) (mod-eq_of_lt below)
c_index-whole shape out (suc k) place end below done = absurd (omega arith)

-- the count of cells, where it is 0
pub cell_count-zero : (shape : List ℕ) → list_any (λ size. nat_eq size 0) shape ≡ true → cell_count shape ≡ 0
cell_count-zero [] any = absurd (cc)
cell_count-zero (zero ∷ shape) any = omega arith
cell_count-zero (suc size ∷ shape) any =
    let rest : list_any (λ size. nat_eq size 0) shape ≡ true = grind (arith, nat_tests) in
    let none = cell_count-zero shape rest in
    rw none (omega arith)

-- and where it is not
pub cell_count-above : (shape : List ℕ) → list_any (λ size. nat_eq size 0) shape ≡ false → 0 < cell_count shape
cell_count-above [] none = omega arith
cell_count-above (zero ∷ shape) none = absurd (cc)
cell_count-above (suc size ∷ shape) none =
    let rest : list_any (λ size. nat_eq size 0) shape ≡ false = grind (arith, nat_tests) in
    mul-pos {m = suc size} (omega arith) (cell_count-above shape rest)

-- one step of the count
pub cell_count-step : (shape : List ℕ) (k count : ℕ) → k < length shape → count * cell_count (drop k shape) ≡ cell_count shape
    → count * slice_index shape k * cell_count (drop (suc k) shape) ≡ cell_count shape
cell_count-step shape k count within so_far =
    mul_assoc count (slice_index shape k) (cell_count (drop (suc k) shape)) ∙ sym (ap (λ n. count * n) (cell_count-from shape k within)) ∙ so_far

-- which stays below the whole
pub cell_count-bound : (shape : List ℕ) (k count : ℕ) → 0 < cell_count shape → k < length shape → count * cell_count (drop k shape) ≡ cell_count shape
    → count * slice_index shape k ≤ cell_count shape
cell_count-bound shape k count above within so_far =
    factor_le _ (cell_count (drop (suc k) shape)) 0 _ (cell_count-drop-pos (suc k) shape above) (omega (arith, cell_count-step shape k count within so_far))
