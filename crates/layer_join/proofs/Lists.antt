-- Tests of lists with one item changed or put in.
use Rattle.std.proofs.Common.{◌≡◌, ℕ, zero, suc, Bool, true, false, ◌||◌, List, [], ◌∷◌, refl}
use Rattle.std.proofs.Math.ListN.{set}
use Rattle.std.specs.List.{list_all, list_any, insert}
use Rattle.cells.proofs.Laws.{both, both_true}

-- a test that each item passes, and a new one too
pub list_all-set : {X : Type 0} (p : X → Bool) (xs : List X) (k : ℕ) (y : X) → list_all p xs ≡ true → p y ≡ true → list_all p (set xs k y) ≡ true
list_all-set p [] k y all here = refl
list_all-set p (x ∷ xs) zero y all here = let q = both (p x) (list_all p xs) all in both_true (p y) (list_all p xs) here q.1
list_all-set p (x ∷ xs) (suc k) y all here =
    let q = both (p x) (list_all p xs) all in both_true (p x) (list_all p (set xs k y)) q.0 (list_all-set p xs k y q.1 here)

pub list_all-insert : {X : Type 0} (p : X → Bool) (xs : List X) (k : ℕ) (y : X) → list_all p xs ≡ true → p y ≡ true → list_all p (insert xs k y) ≡ true
list_all-insert p xs zero y all here = both_true (p y) (list_all p xs) here all
list_all-insert p [] (suc k) y all here = both_true (p y) true here refl
list_all-insert p (x ∷ xs) (suc k) y all here =
    let q = both (p x) (list_all p xs) all in both_true (p x) (list_all p (insert xs k y)) q.0 (list_all-insert p xs k y q.1 here)

-- a test that no item passes, nor a new one
pub list_any-insert : {X : Type 0} (p : X → Bool) (xs : List X) (k : ℕ) (y : X) → list_any p xs ≡ false → p y ≡ false → list_any p (insert xs k y) ≡ false
list_any-insert p xs zero y none here = rw (here, none) refl
list_any-insert p [] (suc k) y none here = rw here refl
list_any-insert p (x ∷ xs) (suc k) y none here =
    let q = split (p x) (list_any p xs) none in rw (q.0, list_any-insert p xs k y q.1 here) refl
  where
    split : (a b : Bool) → (a || b) ≡ false → (a ≡ false) × (b ≡ false)
    split true b e = absurd (let no_such : ⊥ = cc in no_such)
    split false b e = (refl, e)
