-- Lists that are known place by place.
use Rattle.std.proofs.Common.{◌≡◌, ◌∙◌, ℕ, zero, suc, ◌<◌, List, [], ◌∷◌, length, map, Some, refl, ap, subst, arith}
use Rattle.std.specs.List.{slice_get}

-- for the items of two lists at each place there is a third
pub record AreChosen {A B C : Type 0} (R : ℕ → A → B → C → Type 0) (xs : List A) (ys : List B) : Type 0 where
  pub all : List C
  pub count : length all ≡ length ys
  pub each : (k : ℕ) (x : A) (y : B) (c : C) → slice_get xs k ≡ Some x → slice_get ys k ≡ Some y → slice_get all k ≡ Some c → R k x y c

pub choose : {A B C : Type 0} (R : ℕ → A → B → C → Type 0) (xs : List A) (ys : List B) → length ys ≡ length xs → ((k : ℕ) (x : A) (y : B) → slice_get xs k ≡ Some x → slice_get ys k ≡ Some y → (c : C) × R k x y c) → AreChosen R xs ys
choose R [] [] e f = record { all = []; count = refl; each = λ k x y c is. absurd (let no_such : ⊥ = cc in no_such) }
choose R [] (y ∷ ys) e f = absurd (omega (arith, e))
choose R (x ∷ xs) [] e f = absurd (omega (arith, e))
choose {A} {B} {C} R (x ∷ xs) (y ∷ ys) e f = whole (f 0 x y refl refl) (choose (λ k. R (suc k)) xs ys (omega (arith, e)) (λ k. f (suc k)))
  where
    whole : ((c : C) × R 0 x y c) → AreChosen (λ k. R (suc k)) xs ys → AreChosen R (x ∷ xs) (y ∷ ys)
    whole first rest = record { all = first.0 ∷ rest.all; count = ap suc rest.count; each = by }
      where
        by : (k : ℕ) (x' : A) (y' : B) (c : C) → slice_get (x ∷ xs) k ≡ Some x' → slice_get (y ∷ ys) k ≡ Some y' → slice_get (first.0 ∷ rest.all) k ≡ Some c → R k x' y' c
        by zero x' y' c is are has =
            let one : x ≡ x' = cc in let two : y ≡ y' = cc in let three : first.0 ≡ c = cc in
            subst (R 0 x' y') three (subst (λ v. R 0 x' v first.0) two (subst (λ v. R 0 v y first.0) one first.1))
        by (suc k) x' y' c is are has = rest.each k x' y' c is are has

-- the item at a place below the length
pub got : {A : Type 0} (xs : List A) (k : ℕ) → k < length xs → (x : A) × (slice_get xs k ≡ Some x)
got [] k low = absurd (omega (arith, low))
got (x ∷ xs) zero low = (x, refl)
got (x ∷ xs) (suc k) low = got xs k (omega (arith, low))

pub below : {A : Type 0} (xs : List A) (k : ℕ) (x : A) → slice_get xs k ≡ Some x → k < length xs
below [] k x is = absurd (let no_such : ⊥ = cc in no_such)
below (y ∷ ys) zero x is = omega arith
below (y ∷ ys) (suc k) x is = let low = below ys k x is in omega (arith, low)

-- an item of a mapped list comes of one
pub got_map : {A B : Type 0} (f : A → B) (xs : List A) (k : ℕ) (y : B) → slice_get (map f xs) k ≡ Some y → (x : A) × ((slice_get xs k ≡ Some x) × (f x ≡ y))
got_map f [] k y is = absurd (let no_such : ⊥ = cc in no_such)
got_map f (x ∷ xs) zero y is = let same : f x ≡ y = cc in (x, (refl, same))
got_map f (x ∷ xs) (suc k) y is = got_map f xs k y is

-- two lists of one length that agree at each place, by a function
pub mapped_by : {A B : Type 0} (f : A → B) (xs : List A) (ys : List B) → length xs ≡ length ys → ((k : ℕ) (x : A) (y : B) → slice_get xs k ≡ Some x → slice_get ys k ≡ Some y → y ≡ f x) → ys ≡ map f xs
mapped_by f [] [] e same = refl
mapped_by f [] (y ∷ ys) e same = absurd (omega (arith, e))
mapped_by f (x ∷ xs) [] e same = absurd (omega (arith, e))
mapped_by f (x ∷ xs) (y ∷ ys) e same =
    let first : y ≡ f x = same 0 x y refl refl in
    let rest : ys ≡ map f xs = mapped_by f xs ys (omega (arith, e)) (λ k. same (suc k)) in
    ap (λ v. v ∷ ys) first ∙ ap (λ vs. f x ∷ vs) rest
