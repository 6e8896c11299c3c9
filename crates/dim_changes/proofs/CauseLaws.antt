-- The cause that counts, found from the last to the first.
use Rattle.std.proofs.Common.{◌≡◌, ◌∙◌, zero, suc, ℕ, ◌+◌, ◌<◌, Option, Some, None, List, [], ◌∷◌, ◌++◌, length, map, drop, get_or, refl, sym, ap, arith}
use Rattle.std.proofs.Math.Seq.{drop-cons}
use Rattle.std.specs.List.{enumerate_from}
use Rattle.dim_changes.specs.declared.cause.Cause.{Cause}
use Rattle.dim_changes.specs.Causes.{with_cause, first_cause}

-- one selected dimension more, in front of the others
pub causes-more : (f : ℕ × ℕ → Option Cause) (xs : List ℕ) (later : List (Option Cause)) (k x : ℕ) → k < length xs → x ≡ get_or xs k x
    → first_cause (map f (enumerate_from k (drop k xs)) ++ later) ≡ with_cause (f (k, x)) (first_cause (map f (enumerate_from (k + 1) (drop (k + 1) xs)) ++ later))
causes-more f xs later k x h e =
    let one : k + 1 ≡ suc k = omega arith in
    let at : drop k xs ≡ x ∷ drop (k + 1) xs = rw one (drop-cons xs k x h ∙ ap (λ y. y ∷ drop (suc k) xs) (sym e)) in
    ap (λ (ys : List ℕ). first_cause (map f (enumerate_from k ys) ++ later)) at

-- where none counts, there is none
pub record NoneOf (f : ℕ × ℕ → Option Cause) (a : ℕ) (xs : List ℕ) (later : List (Option Cause)) : Type 0 where
  pub each : (k x : ℕ) → k < length xs → f (a + k, get_or xs k x) ≡ None
  pub rest : first_cause later ≡ None

none-here : (c : Option Cause) (later : Option Cause) → with_cause c later ≡ None → (c ≡ None) × (later ≡ None)
none-here None later e = (refl, e)
none-here (Some c) later e = cc

pub NoneOf-first : (f : ℕ × ℕ → Option Cause) (a : ℕ) (xs : List ℕ) (later : List (Option Cause))
    → first_cause (map f (enumerate_from a xs) ++ later) ≡ None → NoneOf f a xs later
NoneOf-first f a [] later e = record { each = λ k x h. absurd (omega (arith, h)); rest = e }
NoneOf-first f a (y ∷ xs) later e =
    let p = none-here (f (a, y)) (first_cause (map f (enumerate_from (a + 1) xs) ++ later)) e in
    let r = NoneOf-first f (a + 1) xs later p.1 in
    record { each = λ k x h. at k x h p.0 r.each; rest = r.rest }
  where
    at : (k x : ℕ) → k < length (y ∷ xs) → f (a, y) ≡ None → ((k x : ℕ) → k < length xs → f ((a + 1) + k, get_or xs k x) ≡ None)
        → f (a + k, get_or (y ∷ xs) k x) ≡ None
    at zero x h q r = let z : a + 0 ≡ a = omega arith in rw z q
    at (suc k) x h q r = let z : (a + 1) + k ≡ a + suc k = omega arith in (rw z at (r k x (omega (arith, h))))

-- the same of what is mapped
pub none-mapped : {X : Type 0} (f : X → Option Cause) (xs : List X) → first_cause (map f xs) ≡ None → (k : ℕ) (x : X) → k < length xs → f (get_or xs k x) ≡ None
none-mapped f [] e k x h = absurd (omega (arith, h))
none-mapped f (y ∷ xs) e zero x h = (none-here (f y) (first_cause (map f xs)) e).0
none-mapped f (y ∷ xs) e (suc k) x h = none-mapped f xs ((none-here (f y) (first_cause (map f xs)) e).1) k x (omega (arith, h))
