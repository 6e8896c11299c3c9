-- Where a dimension stands in a list.
use Rattle.std.proofs.Common.{◌≡◌, zero, suc, ℕ, ◌+◌, ◌<◌, ◌≤◌, ◌==◌, Bool, true, false, cond, Some, List, [], ◌∷◌, length, get_or, refl, arith}
use Rattle.std.proofs.lemmas.Bool.Decides.{nat_tests}
use Rattle.std.specs.List.{position_from}
use Rattle.dim_changes.specs.Dims.{spot_in}

-- the spot of a dimension is inside, and the dimension stands there
pub record IsSpotOf (dims : List ℕ) (dim spot : ℕ) : Type 0 where
  pub inside : spot < length dims
  pub there : (x : ℕ) → get_or dims spot x ≡ dim

from-Some : (i : ℕ) (dims : List ℕ) (dim spot : ℕ) → position_from (λ d. d == dim) i dims ≡ Some spot
    → (i ≤ spot) × ((x : ℕ) → (k : ℕ) → spot ≡ i + k → (k < length dims) × (get_or dims k x ≡ dim))
from-Some i [] dim spot e = cc
from-Some i (d ∷ dims) dim spot e = told (d == dim) refl e (from-Some (i + 1) dims dim spot)
  where
    told : (b : Bool) → (d == dim) ≡ b → cond b (Some i) (position_from (λ x. x == dim) (i + 1) dims) ≡ Some spot
        → (position_from (λ x. x == dim) (i + 1) dims ≡ Some spot → ((i + 1) ≤ spot) × ((x : ℕ) → (k : ℕ) → spot ≡ (i + 1) + k → (k < length dims) × (get_or dims k x ≡ dim)))
        → (i ≤ spot) × ((x : ℕ) → (k : ℕ) → spot ≡ i + k → (k < length (d ∷ dims)) × (get_or (d ∷ dims) k x ≡ dim))
    told true q f rest =
        let here : i ≡ spot = cc in
        (omega (arith, here), λ x k z. at x k (omega (arith, z, here)))
      where
        at : (x k : ℕ) → k ≡ 0 → (k < length (d ∷ dims)) × (get_or (d ∷ dims) k x ≡ dim)
        at x zero z = (omega arith, grind (arith, nat_tests))
        at x (suc k) z = absurd (omega (arith, z))
    told false q f rest =
        let r = rest f in
        let low = r.0 in
        (omega (arith, low), λ x k z. at x k z low (r.1))
      where
        at : (x k : ℕ) → spot ≡ i + k → (i + 1) ≤ spot → ((x : ℕ) → (k : ℕ) → spot ≡ (i + 1) + k → (k < length dims) × (get_or dims k x ≡ dim))
            → (k < length (d ∷ dims)) × (get_or (d ∷ dims) k x ≡ dim)
        at x zero z low g = absurd (omega (arith, z, low))
        at x (suc k) z low g = let s = g x k (omega (arith, z)) in let l = s.0 in (omega (arith, l), s.1)

pub spot_in-Some : (dims : List ℕ) (dim spot : ℕ) → spot_in dims dim ≡ Some spot → IsSpotOf dims dim spot
spot_in-Some dims dim spot e =
    let r = from-Some 0 dims dim spot e in
    record { inside = (r.1 0 spot (omega arith)).0; there = λ x. (r.1 x spot (omega arith)).1 }
