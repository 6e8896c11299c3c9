-- The values of a view's cells, one after another.
use Rattle.std.proofs.Common.{◌≡◌, ◌∙◌, ℕ, zero, suc, ◌+◌, ◌<◌, ◌≤◌, ℤ, List, [], ◌∷◌, ◌++◌, length, map, take, drop, get_or, Option, Some, None, Result, Ok, sym, ap, subst, arith}
use Rattle.std.specs.List.{All}
use Rattle.std.proofs.lemmas.List.{take_more, map-append}
use Rattle.index_transform.specs.declared.error.AtError.{AtError}
use Rattle.index_transform.specs.Transforms.{DomainAndMaps}
use Rattle.index_transform.specs.Values.{value_at, at_answer, first_outside, first_overflow, unless_outside, unless_overflow}

overflow_ok : (o : Option ℕ) (xs ns : List ℤ) → unless_overflow o xs ≡ Ok ns → ns ≡ xs
overflow_ok None xs ns e = let same : xs ≡ ns = cc in sym same
overflow_ok (Some k) xs ns e = absurd (cc)

outside_ok : (o : Option ℕ) (r : Result (List ℤ) AtError) (ns : List ℤ) → unless_outside o r ≡ Ok ns → r ≡ Ok ns
outside_ok None r ns e = e
outside_ok (Some k) r ns e = absurd (cc)

-- the numbers that are answered are the value
pub value-answered : (t : DomainAndMaps) (index ns : List ℤ) → at_answer t index ≡ Ok ns → ns ≡ value_at t index
value-answered t index ns e =
    overflow_ok (first_overflow (value_at t index)) (value_at t index) ns (outside_ok (first_outside t.domain.dims index) _ ns e)

-- the next of what is left of a list
pub record IsNext {X : Type 0} (xs : List X) (k : ℕ) (x : X) (rest : List X) : Type 0 where
  pub below : k < length xs
  pub here : get_or xs k x ≡ x
  pub left : drop (k + 1) xs ≡ rest

pub next_left : {X : Type 0} (xs : List X) (k : ℕ) (x : X) (rest : List X) → drop k xs ≡ x ∷ rest → IsNext xs k x rest
next_left [] zero x rest e = absurd (cc)
next_left [] (suc k) x rest e = absurd (cc)
next_left {X} (y ∷ ys) zero x rest e =
    let head : y ≡ x = cc in
    let tail : ys ≡ rest = cc in
    record { below = omega arith; here = head; left = tail }
next_left {X} (y ∷ ys) (suc k) x rest e =
    let n = next_left ys k x rest e in
    let one : suc k + 1 ≡ suc (k + 1) = omega arith in
    record {
      below = omega (arith, n.below);
      here = n.here;
      left = ap (λ j. drop j (y ∷ ys)) one ∙ n.left;
    }

-- what holds of all holds of the next, and one more is mapped
pub next-holds : {X : Type 0} (P : X → Type 0) (xs : List X) (k : ℕ) (x : X) (rest : List X) → All P xs → IsNext xs k x rest → P x
next-holds P xs k x rest all n = subst P n.here (all k x n.below)

pub next-mapped : {X Y : Type 0} (f : X → Y) (xs : List X) (k : ℕ) (x : X) (rest : List X) → IsNext xs k x rest
    → map f (take k xs) ++ f x ∷ [] ≡ map f (take (k + 1) xs)
next-mapped f xs k x rest n =
    sym (ap (map f) (take_more xs k x n.below) ∙ map-append f (take k xs) (get_or xs k x ∷ []) ∙ ap (λ y. map f (take k xs) ++ f y ∷ []) n.here)

-- nothing is left of a list once its length is passed
pub none_left : {X : Type 0} (xs : List X) (k : ℕ) → drop k xs ≡ [] → length xs ≤ k
none_left [] k e = omega arith
none_left (x ∷ xs) zero e = absurd (cc)
none_left (x ∷ xs) (suc k) e = omega (arith, none_left xs k e)
