-- Index vectors inside a shape, one dimension after another.
use Rattle.std.proofs.Common.{◌≡◌, ◌<◌, ◌≤◌, ◌∙◌, ◌+◌, ℕ, zero, suc, ℤ, pos, negsuc, ◌≤ℤ◌, ◌<ℤ◌, true, false, List, [], ◌∷◌, ◌++◌, length, drop, get_or, Result, Ok, Err, refl, sym, ap, subst, arith, unsigned_abs, nat_lt, append_assoc, append-nil, map, ◌⊎◌, inl, inr}
use Rattle.std.proofs.lemmas.List.{drop_more, drop_all, map-append}
use Rattle.std.specs.List.{All}
use Rattle.std.proofs.lemmas.Int.{ints}
use Rattle.std.proofs.lemmas.Bool.Decides.{nat_tests}
use Rattle.cast_driver.proofs.Laws.{then_from, else_from}
use Rattle.stack_driver.specs.Targets.{before, in_dim, in_shape, IsOutside}
use Rattle.stack_driver.specs.declared.error.TargetError.TheVariants.{OutOfRange}

-- indices of the first dimensions, and those of the rest or its fault
abbrev pub behind : List ℕ → Result (List ℕ) ℕ → Result (List ℕ) ℕ
behind xs (Ok rest) = Ok (xs ++ rest)
behind xs (Err dim) = Err dim

pub behind-none : (r : Result (List ℕ) ℕ) → r ≡ behind [] r
behind-none (Ok xs) = refl
behind-none (Err dim) = refl

pub behind-before : (xs : List ℕ) (x : ℕ) (r : Result (List ℕ) ℕ) → behind xs (before x r) ≡ behind (xs ++ x ∷ []) r
behind-before xs x (Ok rest) = ap Ok (simp append_assoc refl)
behind-before xs x (Err dim) = refl

-- one dimension more
pub step : (numbers : List ℤ) (shape : List ℕ) (k size : ℕ) → k < length shape → length numbers ≡ length shape
    → in_shape k (drop k numbers) (drop k shape) ≡ in_dim (get_or numbers k (pos 0)) (get_or shape k size) k (in_shape (k + 1) (drop (k + 1) numbers) (drop (k + 1) shape))
step numbers shape k size h same =
    ap (λ v. in_shape k v (drop k shape)) (drop_more numbers k (pos 0) (omega (arith, h, same)))
    ∙ ap (λ w. in_shape k (get_or numbers k (pos 0) ∷ drop (k + 1) numbers) w) (drop_more shape k size h)

below : (n size : ℕ) → pos n <ℤ pos size → nat_lt n size ≡ true
below n size h = let l : n < size = omega (arith, ints, h) in grind (arith, nat_tests, l)

above : (n size : ℕ) → pos size ≤ℤ pos n → nat_lt n size ≡ false
above n size h = let l : size ≤ n = omega (arith, ints, h) in grind (arith, nat_tests, l)

-- a number from 0 below the size
pub in_dim-inside : (x : ℤ) (size k : ℕ) (rest : Result (List ℕ) ℕ) → pos 0 ≤ℤ x → x <ℤ pos size → in_dim x size k rest ≡ before (unsigned_abs x) rest
in_dim-inside (pos n) size k rest from to = then_from (nat_lt n size) (before n rest) (Err k) (below n size to)
in_dim-inside (negsuc n) size k rest from to = absurd (omega (arith, ints, from))

-- a number below 0, or from the size on
pub in_dim-below : (x : ℤ) (size k : ℕ) (rest : Result (List ℕ) ℕ) → x <ℤ pos 0 → in_dim x size k rest ≡ Err k
in_dim-below (pos n) size k rest h = absurd (omega (arith, ints, h))
in_dim-below (negsuc n) size k rest h = refl

pub in_dim-above : (x : ℤ) (size k : ℕ) (rest : Result (List ℕ) ℕ) → pos size ≤ℤ x → in_dim x size k rest ≡ Err k
in_dim-above (pos n) size k rest h = else_from (nat_lt n size) (before n rest) (Err k) (above n size h)
in_dim-above (negsuc n) size k rest h = absurd (omega (arith, ints, h))

-- the fault of the dimension that was reached is that of all
pub outside-behind : (r : Result (List ℕ) ℕ) (xs : List ℕ) (rest : Result (List ℕ) ℕ) (dim : ℕ) → r ≡ behind xs rest → rest ≡ Err dim → IsOutside r (OutOfRange dim)
outside-behind r xs rest dim is err = subst (λ s. IsOutside s (OutOfRange dim)) (sym (is ∙ ap (behind xs) err)) refl

-- all dimensions are done
pub done : (numbers : List ℤ) (shape : List ℕ) (k : ℕ) (xs : List ℕ) → length numbers ≡ length shape → length shape ≤ k → behind xs (in_shape k (drop k numbers) (drop k shape)) ≡ Ok xs
done numbers shape k xs same h =
    ap (λ v. behind xs (in_shape k v (drop k shape))) (drop_all k numbers (omega (arith, same, h)))
    ∙ ap (λ w. behind xs (in_shape k [] w)) (drop_all k shape h) ∙ ap Ok (append-nil xs)

-- what a step of the loop leaves: the index joined to those before it, and the rest
pub next : (numbers xs : List ℤ) (shape : List ℕ) (k : ℕ) (all : Result (List ℕ) ℕ) (x : ℤ) → k < length shape → length numbers ≡ length shape → x ≡ get_or numbers k (pos 0)
    → pos 0 ≤ℤ x → x <ℤ pos (get_or shape k 0)
    → (all ≡ behind (map unsigned_abs xs) (in_shape k (drop k numbers) (drop k shape)))
    → all ≡ behind (map unsigned_abs (xs ++ x ∷ [])) (in_shape (k + 1) (drop (k + 1) numbers) (drop (k + 1) shape))
next numbers xs shape k all x h same is from to before_it =
    let rest = in_shape (k + 1) (drop (k + 1) numbers) (drop (k + 1) shape) in
    let here = step numbers shape k 0 h same ∙ ap (λ y. in_dim y (get_or shape k 0) k rest) (sym is) ∙ in_dim-inside x (get_or shape k 0) k rest from to in
    before_it ∙ ap (behind (map unsigned_abs xs)) here ∙ behind-before (map unsigned_abs xs) (unsigned_abs x) rest ∙ ap (λ ys. behind ys rest) (sym (map-append unsigned_abs xs (x ∷ [])))

-- a fault at a dimension
pub stop : (numbers : List ℤ) (xs shape : List ℕ) (k : ℕ) (all : Result (List ℕ) ℕ) (x : ℤ) → k < length shape → length numbers ≡ length shape → x ≡ get_or numbers k (pos 0)
    → (x <ℤ pos 0) ⊎ (pos (get_or shape k 0) ≤ℤ x)
    → (all ≡ behind xs (in_shape k (drop k numbers) (drop k shape))) → IsOutside all (OutOfRange k)
stop numbers xs shape k all x h same is outside before_it =
    let rest = in_shape (k + 1) (drop (k + 1) numbers) (drop (k + 1) shape) in
    let here = step numbers shape k 0 h same ∙ ap (λ y. in_dim y (get_or shape k 0) k rest) (sym is) in
    outside-behind all xs (in_shape k (drop k numbers) (drop k shape)) k before_it (here ∙ elim outside [ inl l ↦ in_dim-below x (get_or shape k 0) k rest l | inr g ↦ in_dim-above x (get_or shape k 0) k rest g ])

-- what holds of one holds of a list of it alone
pub one : (P : ℤ → Type 0) (x : ℤ) → P x → All P (x ∷ [])
one P x p zero d h = p
one P x p (suc k) d h = absurd (omega (arith, h))
