-- F order is C order of the dimensions backwards.
use Rattle.std.proofs.Common.{◌≡◌, ℕ, ◌+◌, ◌*◌, ◌<◌, List, [], ◌∷◌, ◌++◌, reverse, refl, ◌∙◌, arith}
use Rattle.std.proofs.lemmas.List.{reverse-append}
use Rattle.cells.specs.Places.{cell_count, IsInside, c_place, f_place}

reverse-cons : (x : ℕ) (xs : List ℕ) → reverse (x ∷ xs) ≡ reverse xs ++ x ∷ []
reverse-cons x xs = reverse-append (x ∷ []) xs

cell_count-push : (sizes : List ℕ) (s : ℕ) → cell_count (sizes ++ s ∷ []) ≡ cell_count sizes * s
cell_count-push [] s = omega arith
cell_count-push (t ∷ ts) s = rw (cell_count-push ts s) (omega arith)

-- the sizes backwards have as many cells
pub cell_count-reverse : (sizes : List ℕ) → cell_count (reverse sizes) ≡ cell_count sizes
cell_count-reverse [] = refl
cell_count-reverse (s ∷ ss) = rw reverse-cons (cell_count-push (reverse ss) s ∙ rw (cell_count-reverse ss) (omega arith))

IsInside-push : (sizes index : List ℕ) (s i : ℕ) → IsInside sizes index → i < s → IsInside (sizes ++ s ∷ []) (index ++ i ∷ [])
IsInside-push [] [] s i within less = (less, tt)
IsInside-push [] (j ∷ js) s i within less = absurd within
IsInside-push (t ∷ ts) [] s i within less = absurd within
IsInside-push (t ∷ ts) (j ∷ js) s i within less = (within.0, IsInside-push ts js s i within.1 less)

-- the index vector backwards lies inside the sizes backwards
pub IsInside-reverse : (sizes index : List ℕ) → IsInside sizes index → IsInside (reverse sizes) (reverse index)
IsInside-reverse [] [] within = tt
IsInside-reverse [] (i ∷ is) within = absurd within
IsInside-reverse (s ∷ ss) [] within = absurd within
IsInside-reverse (s ∷ ss) (i ∷ is) within = rw (reverse-cons s ss, reverse-cons i is) (IsInside-push (reverse ss) (reverse is) s i (IsInside-reverse ss is within.1) within.0)

c_place-push : (sizes index : List ℕ) (s i : ℕ) → IsInside sizes index → c_place (sizes ++ s ∷ []) (index ++ i ∷ []) ≡ c_place sizes index * s + i
c_place-push [] [] s i within = omega arith
c_place-push [] (j ∷ js) s i within = absurd within
c_place-push (t ∷ ts) [] s i within = absurd within
c_place-push (t ∷ ts) (j ∷ js) s i within = rw (cell_count-push ts s, c_place-push ts js s i within.1) (omega arith)

f_place-push : (sizes index : List ℕ) (s i : ℕ) → IsInside sizes index → f_place (sizes ++ s ∷ []) (index ++ i ∷ []) ≡ f_place sizes index + cell_count sizes * i
f_place-push [] [] s i within = omega arith
f_place-push [] (j ∷ js) s i within = absurd within
f_place-push (t ∷ ts) [] s i within = absurd within
f_place-push (t ∷ ts) (j ∷ js) s i within = rw (f_place-push ts js s i within.1) (omega arith)

-- the place in C order of the dimensions backwards is the place in F order
pub c_place-reverse : (sizes index : List ℕ) → IsInside sizes index → c_place (reverse sizes) (reverse index) ≡ f_place sizes index
c_place-reverse [] [] within = refl
c_place-reverse [] (i ∷ is) within = absurd within
c_place-reverse (s ∷ ss) [] within = absurd within
c_place-reverse (s ∷ ss) (i ∷ is) within =
    rw (reverse-cons s ss, reverse-cons i is) (c_place-push (reverse ss) (reverse is) s i (IsInside-reverse ss is within.1) ∙ rw (c_place-reverse ss is within.1) (omega arith))

-- the place in F order of the dimensions backwards is the place in C order
pub f_place-reverse : (sizes index : List ℕ) → IsInside sizes index → f_place (reverse sizes) (reverse index) ≡ c_place sizes index
f_place-reverse [] [] within = refl
f_place-reverse [] (i ∷ is) within = absurd within
f_place-reverse (s ∷ ss) [] within = absurd within
f_place-reverse (s ∷ ss) (i ∷ is) within =
    rw (reverse-cons s ss, reverse-cons i is)
    (f_place-push (reverse ss) (reverse is) s i (IsInside-reverse ss is within.1) ∙ rw (f_place-reverse ss is within.1, cell_count-reverse ss) (omega arith))
