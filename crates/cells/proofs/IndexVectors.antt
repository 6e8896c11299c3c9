-- The index vectors of a shape, in C order: by place each, all that lie inside, and in lexical order.
use Rattle.std.proofs.Common.{◌≡◌, ℕ, zero, suc, ◌+◌, ◌*◌, ◌/◌, ◌%◌, ◌<◌, ◌≤◌, ◌↔◌, inl, inr, List, [], ◌∷◌, ◌++◌, length, slice_index_or, map, reverse, refl, sym, ◌∙◌, ap, subst, arith}
use Rattle.std.proofs.Math.Nat.{zero-mul, suc-mul, add-mul, mul-le-mul_right, mul_assoc, mul_comm}
use Rattle.std.proofs.lemmas.Nat.{div-mul-add, mod-mul-add}
use Rattle.std.proofs.lemmas.Simd.{map-map}
use Rattle.std.proofs.lemmas.List.{map-append, length-reverse}
use Rattle.std.proofs.lemmas.Grind.{reverse_onto}
use Rattle.std.proofs.lemmas.List.FromFn.{length-map-range_with_len, get_or-map-range_with_len}
use Rattle.std.proofs.lemmas.Bool.{cases_order}
use Rattle.std.specs.Prelude.{Contains}
use Rattle.std.specs.Ordering.{nat_cmp, ordering_then}
use Rattle.std.specs.Cmp.{nat_cmp_is}
use Rattle.std.specs.Cmp.Lexicographic.{slice_cmp}
use Rattle.std.specs.declared.cmp.Ordering.TheVariants.{Less, Equal, Greater}
use Rattle.std.specs.List.{flat_map, range_with_len}
use Rattle.cells.specs.Places.{cell_count, IsInside, index_vectors, c_place, f_place, c_index}
use Rattle.cells.proofs.PlaceLaws.{IsInside-c_index, c_place-lt, c_index-c_place}

-- two ranges that two functions take alike
map-ranges : {X : Type 0} (f g : ℕ → X) (a b n : ℕ) → ((j : ℕ) → j < n → f (a + j) ≡ g (b + j)) → map f (range_with_len a n) ≡ map g (range_with_len b n)
map-ranges f g a b zero same = refl
map-ranges f g a b (suc n) same =
    let first : f a ≡ g b = ap f (omega arith) ∙ same 0 (omega arith) ∙ ap g (omega arith) in
    let others = map-ranges f g (a + 1) (b + 1) n (λ j below. ap f (omega arith) ∙ same (suc j) (omega arith) ∙ ap g (omega arith)) in
    ap (λ x. x ∷ map f (range_with_len (a + 1) n)) first ∙ ap (λ xs. g b ∷ xs) others

-- a range in two parts
range_with_len-append : (a m n : ℕ) → range_with_len a (m + n) ≡ range_with_len a m ++ range_with_len (a + m) n
range_with_len-append a zero n =
    let none : 0 + n ≡ n = omega arith in
    let same : a + 0 ≡ a = omega arith in
    ap (range_with_len a) none ∙ ap (λ k. range_with_len k n) (sym same)
range_with_len-append a (suc m) n =
    let more : suc m + n ≡ suc (m + n) = omega arith in
    let on : a + 1 + m ≡ a + suc m = omega arith in
    ap (range_with_len a) more ∙ ap (λ xs. a ∷ xs) (range_with_len-append (a + 1) m n) ∙ ap (λ k. a ∷ (range_with_len (a + 1) m ++ range_with_len k n)) on

-- the rows of a shape, from row a on
rows : (count : ℕ) (index : ℕ → List ℕ) (a n : ℕ)
    → flat_map (λ i. map (λ rest. i ∷ rest) (map index (range_with_len 0 count))) (range_with_len a n)
    ≡ map (λ place. place / count ∷ index (place % count)) (range_with_len (a * count) (n * count))
rows count index a zero = ap (λ k. map (λ place. place / count ∷ index (place % count)) (range_with_len (a * count) k)) (sym (zero-mul count))
rows count index a (suc n) =
    let f : ℕ → List ℕ = λ place. place / count ∷ index (place % count) in
    let cell : (j : ℕ) → j < count → a ∷ index (0 + j) ≡ f (a * count + j) = λ j below.
    let none : 0 + j ≡ j = omega arith in
    ap (λ k. a ∷ index k) (none ∙ sym (mod-mul-add a count j below)) ∙ ap (λ k. k ∷ index ((a * count + j) % count)) (sym (div-mul-add a count j below)) in
    let row = map-map (λ rest. a ∷ rest) index (range_with_len 0 count) ∙ map-ranges (λ j. a ∷ index j) f 0 (a * count) count cell in
    let others = rows count index (a + 1) n in
    let on : (a + 1) * count ≡ a * count + count = omega (arith, add-mul a 1 count) in
    let whole : suc n * count ≡ count + n * count = omega (arith, suc-mul n count) in
    ap (λ xs. xs ++ flat_map (λ i. map (λ rest. i ∷ rest) (map index (range_with_len 0 count))) (range_with_len (a + 1) n)) row
    ∙ ap (λ xs. map f (range_with_len (a * count) count) ++ xs) others
    ∙ ap (λ k. map f (range_with_len (a * count) count) ++ map f (range_with_len k (n * count))) on
    ∙ sym (map-append f (range_with_len (a * count) count) (range_with_len (a * count + count) (n * count)))
    ∙ sym (ap (map f) (range_with_len-append (a * count) count (n * count)))
    ∙ sym (ap (λ k. map f (range_with_len (a * count) k)) whole)

-- the index vectors stand by their places
pub index_vectors-places : (shape : List ℕ) → index_vectors shape ≡ map (c_index shape) (range_with_len 0 (cell_count shape))
index_vectors-places [] = refl
index_vectors-places (size ∷ shape) =
    ap (λ rests. flat_map (λ i. map (λ rest. i ∷ rest) rests) (range_with_len 0 size)) (index_vectors-places shape)
    ∙ rows (cell_count shape) (c_index shape) 0 size
    ∙ ap (λ k. map (c_index (size ∷ shape)) (range_with_len k (size * cell_count shape))) (zero-mul (cell_count shape))

-- there are as many as the shape has cells
pub length-index_vectors : (shape : List ℕ) → length (index_vectors shape) ≡ cell_count shape
length-index_vectors shape = ap length (index_vectors-places shape) ∙ length-map-range_with_len (c_index shape) 0 (cell_count shape)

-- at a place stands the index vector of that place
pub slice_index_or-index_vectors : (shape : List ℕ) (place : ℕ) (d : List ℕ) → place < cell_count shape
    → slice_index_or (index_vectors shape) place d ≡ c_index shape place
slice_index_or-index_vectors shape place d below =
    ap (λ xs. slice_index_or xs place d) (index_vectors-places shape)
    ∙ get_or-map-range_with_len (c_index shape) 0 (cell_count shape) place place d below (omega arith)

-- they are those that lie inside
pub Contains-index_vectors : (shape index : List ℕ) → Contains (index_vectors shape) index ↔ IsInside shape index
Contains-index_vectors shape index = (there, back)
  where
    there : Contains (index_vectors shape) index → IsInside shape index
    there at =
        let below : at.0 < cell_count shape = omega (arith, length-index_vectors shape, at.1) in
        subst (IsInside shape) (sym (slice_index_or-index_vectors shape at.0 index below) ∙ at.2) (IsInside-c_index shape at.0 below)

    back : IsInside shape index → Contains (index_vectors shape) index
    back inside =
        let below = c_place-lt shape index inside in (
          c_place shape index,
          omega (arith, length-index_vectors shape, below),
          slice_index_or-index_vectors shape (c_place shape index) index below ∙ c_index-c_place shape index inside,
        )

-- two sums compare as their second parts do, where the first are one
nat_cmp-sum : (a b p q : ℕ) → a ≡ b → nat_cmp p q ≡ nat_cmp (a + p) (b + q)
nat_cmp-sum a b p q same =
    elim (cases_order p q) [
      | inl even ↦ sym (nat_cmp_is p q Equal even) ∙ nat_cmp_is (a + p) (b + q) Equal (omega arith)
      | inr (inl less) ↦ sym (nat_cmp_is p q Less less) ∙ nat_cmp_is (a + p) (b + q) Less (omega arith)
      | inr (inr more) ↦ sym (nat_cmp_is p q Greater more) ∙ nat_cmp_is (a + p) (b + q) Greater (omega arith)
    ]

row_less : (count i j p q : ℕ) → p < count → i < j → i * count + p < j * count + q
row_less count i j p q below less =
    let row : (i + 1) * count ≤ j * count = mul-le-mul_right count (omega arith) in
    omega (arith, row, add-mul i 1 count)

-- numbers of two digits compare as their digits do, the first before the second
nat_cmp-digits : (count i j p q : ℕ) → p < count → q < count → ordering_then (nat_cmp i j) (nat_cmp p q) ≡ nat_cmp (i * count + p) (j * count + q)
nat_cmp-digits count i j p q p_below q_below =
    elim (cases_order i j) [
      | inl same ↦ ap (λ o. ordering_then o (nat_cmp p q)) (sym (nat_cmp_is i j Equal same)) ∙ nat_cmp-sum (i * count) (j * count) p q (ap (λ n. n * count) same)
      | inr (inl less) ↦ ap (λ o. ordering_then o (nat_cmp p q)) (sym (nat_cmp_is i j Less less)) ∙ nat_cmp_is _ _ Less (row_less count i j p q p_below less)
      | inr (inr more) ↦ ap (λ o. ordering_then o (nat_cmp p q)) (sym (nat_cmp_is i j Greater more)) ∙ nat_cmp_is _ _ Greater (row_less count j i q p q_below more)
    ]

-- C order is the lexical order of the index vectors
pub nat_cmp-c_place : (shape one other : List ℕ) → IsInside shape one → IsInside shape other
    → slice_cmp nat_cmp one other ≡ nat_cmp (c_place shape one) (c_place shape other)
nat_cmp-c_place [] [] [] p q = refl
nat_cmp-c_place [] (i ∷ one) other p q = absurd p
nat_cmp-c_place [] [] (j ∷ other) p q = absurd q
nat_cmp-c_place (size ∷ shape) [] other p q = absurd p
nat_cmp-c_place (size ∷ shape) (i ∷ one) [] p q = absurd q
nat_cmp-c_place (size ∷ shape) (i ∷ one) (j ∷ other) p q =
    ap (ordering_then (nat_cmp i j)) (nat_cmp-c_place shape one other p.1 q.1)
    ∙ nat_cmp-digits (cell_count shape) i j (c_place shape one) (c_place shape other) (c_place-lt shape one p.1) (c_place-lt shape other q.1)

-- one dimension more at the end
cell_count-append : (shape : List ℕ) (size : ℕ) → cell_count (shape ++ size ∷ []) ≡ cell_count shape * size
cell_count-append [] size = omega arith
cell_count-append (n ∷ shape) size = ap (λ m. n * m) (cell_count-append shape size) ∙ sym (mul_assoc n (cell_count shape) size)

c_place-append : (shape index : List ℕ) (size i : ℕ) → length index ≡ length shape
    → c_place (shape ++ size ∷ []) (index ++ i ∷ []) ≡ c_place shape index * size + i
c_place-append [] [] size i same = omega arith
c_place-append [] (j ∷ index) size i same = absurd (omega (arith, same))
c_place-append (n ∷ shape) [] size i same = absurd (omega (arith, same))
c_place-append (n ∷ shape) (j ∷ index) size i same =
    let rest = c_place-append shape index size i (omega (arith, same)) in
    rw (cell_count-append shape size, rest) (omega (arith, mul_assoc j (cell_count shape) size, add-mul (j * cell_count shape) (c_place shape index) size))

-- F order is C order with the dimensions the other way round
pub f_place-reverse : (shape index : List ℕ) → length index ≡ length shape → f_place shape index ≡ c_place (reverse shape) (reverse index)
f_place-reverse [] [] same = refl
f_place-reverse [] (i ∷ index) same = absurd (omega (arith, same))
f_place-reverse (size ∷ shape) [] same = absurd (omega (arith, same))
f_place-reverse (size ∷ shape) (i ∷ index) same =
    let less : length index ≡ length shape = omega (arith, same) in
    let rest = f_place-reverse shape index less in
    let last = c_place-append (reverse shape) (reverse index) size i (length-reverse index ∙ less ∙ sym (length-reverse shape)) in
    let first : i + size * f_place shape index ≡ c_place (reverse shape) (reverse index) * size + i =
    omega (arith, mul_comm size (f_place shape index), ap (λ n. n * size) rest) in
    first ∙ sym last
    ∙ ap (λ sizes. c_place sizes (reverse index ++ i ∷ [])) (sym (reverse_onto shape size []))
    ∙ ap (c_place (reverse (size ∷ shape))) (sym (reverse_onto index i []))
