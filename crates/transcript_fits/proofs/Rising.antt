-- Windows of a session's lines, whose numbers rise.
use Rattle.std.proofs.Common.{◌≤◌, ℕ, List, [], ◌∷◌, ◌++◌, arith}
use Rattle.std.specs.List.{AllByRecursion}
use Rattle.open_fits.specs.Windows.{before_first}
use Rattle.stated_history.specs.ToldNumbers.{AreRising}

-- rising numbers rise behind the first of them, and without the last
pub rising_tail : (n : ℕ) (ns : List ℕ) → AreRising (n ∷ ns) → AreRising ns
rising_tail n [] are = tt
rising_tail n (m ∷ ns) are = are.1

pub rising_back : (xs ys : List ℕ) → AreRising (xs ++ ys) → AreRising ys
rising_back [] ys are = are
rising_back (x ∷ xs) ys are = rising_back xs ys (rising_tail x (xs ++ ys) are)

pub all_back : (P : ℕ → Type 0) (xs ys : List ℕ) → AllByRecursion P (xs ++ ys) → AllByRecursion P ys
all_back P [] ys all = all
all_back P (x ∷ xs) ys all = all_back P xs ys all.1

pub all_front : (P : ℕ → Type 0) (xs ys : List ℕ) → AllByRecursion P (xs ++ ys) → AllByRecursion P xs
all_front P [] ys all = tt
all_front P (x ∷ xs) ys all = (all.0, all_front P xs ys all.1)

-- a number is none behind the one before the next
number_low : (total n : ℕ) (ns : List ℕ) → n ≤ total → AreRising (n ∷ ns) → n ≤ before_first total ns
number_low total n [] low are = low
number_low total n (m ∷ ns) low are = let first = are.0 in omega (arith, first)

pub end_within : (total : ℕ) (ns : List ℕ) → AllByRecursion (λ n. n ≤ total) ns → before_first total ns ≤ total
end_within total [] all = omega arith
end_within total (n ∷ ns) all = let low = all.0 in omega (arith, low)

-- where later numbers begin, windows end no earlier
pub ends_rise : (total : ℕ) (xs ys : List ℕ) → AllByRecursion (λ n. n ≤ total) (xs ++ ys) → AreRising (xs ++ ys) → before_first total (xs ++ ys) ≤ before_first total ys
ends_rise total [] ys all are = omega arith
ends_rise total (x ∷ xs) ys all are =
    let low = number_low total x (xs ++ ys) all.0 are in
    let rest = ends_rise total xs ys all.1 (rising_tail x (xs ++ ys) are) in
    omega (arith, low, rest)

-- numbers lie in the window that ends behind them
pub numbers_within : (total : ℕ) (xs ys : List ℕ) → AllByRecursion (λ n. n ≤ total) (xs ++ ys) → AreRising (xs ++ ys) → AllByRecursion (λ n. n ≤ before_first total ys) xs
numbers_within total [] ys all are = tt
numbers_within total (x ∷ xs) ys all are =
    let low = number_low total x (xs ++ ys) all.0 are in
    let rest = ends_rise total xs ys all.1 (rising_tail x (xs ++ ys) are) in
    (omega (arith, low, rest), numbers_within total xs ys all.1 (rising_tail x (xs ++ ys) are))
