-- What is mapped over the dimensions of a rank.
use Rattle.std.proofs.Common.{◌≡◌, ◌∙◌, zero, suc, ℕ, ◌+◌, ◌<◌, Bool, true, List, [], ◌∷◌, length, map, get_or, slice_index_or, refl, ap, arith}
use Rattle.std.specs.List.{list_all, range_with_len}
use Rattle.cells.proofs.Laws.{both}
use Rattle.index_intervals.specs.Bounds.{Bounds, AreBounds, are_bounds}
use Rattle.index_intervals.proofs.Laws.{AreBounds-true}
use Rattle.transform_composition.specs.Reading.{point}

pub range-length : {X : Type 0} (f : ℕ → X) (a n : ℕ) → length (map f (range_with_len a n)) ≡ n
range-length f a zero = refl
range-length f a (suc n) = let e = range-length f (a + 1) n in omega (arith, e)

pub range-at : {X : Type 0} (f : ℕ → X) (a n i : ℕ) (d : X) → i < n → get_or (map f (range_with_len a n)) i d ≡ f (a + i)
range-at f a zero i d h = absurd (omega (arith, h))
range-at f a (suc n) zero d h = let z : a ≡ a + 0 = omega arith in ap f z
range-at f a (suc n) (suc i) d h = let z : (a + 1) + i ≡ a + suc i = omega arith in range-at f (a + 1) n i d (omega (arith, h)) ∙ ap f z

pub range-all : {X : Type 0} (p : X → Bool) (f : ℕ → X) (a n : ℕ) → ((i : ℕ) → i < n → p (f (a + i)) ≡ true) → list_all p (map f (range_with_len a n)) ≡ true
range-all p f a zero h = refl
range-all p f a (suc n) h =
    let z : a + 0 ≡ a = omega arith in
    let here : p (f a) ≡ true = rw z at (h 0 (omega arith)) in
    let rest = range-all p f (a + 1) n (λ i l. let y : (a + 1) + i ≡ a + suc i = omega arith in rw y (h (suc i) (omega (arith, l)))) in
    rw (here, rest) refl

-- mapped twice
pub map-map : {X Y : Type 0} (g : X → Y) (f : ℕ → X) (xs : List ℕ) → map g (map f xs) ≡ map (λ x. g (f x)) xs
map-map g f [] = refl
map-map g f (x ∷ xs) = ap (λ ys. g (f x) ∷ ys) (map-map g f xs)

-- a list read at each of its spots is the list
pub read-each : {X : Type 0} (f : ℕ → X) (xs : List ℕ) (d : ℕ) → map (λ i. f (get_or xs i d)) (range_with_len 0 (length xs)) ≡ map f xs
read-each f xs d = from 0 xs xs (λ i h. let z : 0 + i ≡ i = omega arith in ap (λ k. get_or xs k d) z)
  where
    from : (a : ℕ) (ys zs : List ℕ) → ((i : ℕ) → i < length zs → get_or ys (a + i) d ≡ get_or zs i d)
        → map (λ i. f (get_or ys i d)) (range_with_len a (length zs)) ≡ map f zs
    from a ys [] h = refl
    from a ys (z ∷ zs) h =
        let here : get_or ys a d ≡ z = (let w : a ≡ a + 0 = omega arith in ap (λ k. get_or ys k d) w) ∙ h 0 (omega arith) in
        let rest = from (a + 1) ys zs (λ i l. (let w : (a + 1) + i ≡ a + suc i = omega arith in ap (λ k. get_or ys k d) w) ∙ h (suc i) (omega (arith, l))) in
        rw (here, rest) refl

-- a list by its items
pub listed-at : {X : Type 0} (f : ℕ → X) (xs : List X) (d : X) → ((i : ℕ) → i < length xs → get_or xs i d ≡ f i) → xs ≡ map f (range_with_len 0 (length xs))
listed-at {X} f xs d h = from 0 xs (λ i l. let z : i ≡ 0 + i = omega arith in h i l ∙ ap f z)
  where
    from : (a : ℕ) (ys : List X) → ((i : ℕ) → i < length ys → get_or ys i d ≡ f (a + i)) → ys ≡ map f (range_with_len a (length ys))
    from a [] g = refl
    from a (y ∷ ys) g =
        let here : y ≡ f a = g 0 (omega arith) ∙ (let w : a + 0 ≡ a = omega arith in ap f w) in
        ap (λ (x : X). x ∷ ys) here
        ∙ ap (λ (zs : List X). f a ∷ zs) (from (a + 1) ys (λ i l. g (suc i) (omega (arith, l)) ∙ (let w : a + suc i ≡ (a + 1) + i = omega arith in ap f w)))

-- bounds that keep the rule, one by one
pub AreBounds-each : (dims : List Bounds) → list_all are_bounds dims ≡ true → (k : ℕ) → k < length dims → AreBounds (slice_index_or dims k point)
AreBounds-each [] e k h = absurd (omega (arith, h))
AreBounds-each (d ∷ dims) e zero h = AreBounds-true d ((both (are_bounds d) (list_all are_bounds dims) e).0)
AreBounds-each (d ∷ dims) e (suc k) h = AreBounds-each dims ((both (are_bounds d) (list_all are_bounds dims) e).1) k (omega (arith, h))
