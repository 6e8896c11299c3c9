-- Loops over a list.
use Rattle.std.proofs.Common.{◌≡◌, ◌∙◌, zero, suc, ℕ, ◌+◌, ◌<◌, ◌&&◌, Bool, true, false, cond, Some, None, List, [], ◌∷◌, ◌++◌, length, map, take, drop, get_or, refl, sym, ap, arith}
use Rattle.std.proofs.lemmas.List.{take_more, map-append}
use Rattle.std.proofs.Math.Seq.{drop-cons}
use Rattle.std.specs.List.{position_from, list_all, zip}
use Rattle.std.proofs.Math.ListN.{set}
use Rattle.cells.proofs.Laws.{both}

-- one element more is mapped
pub map-take-more : {X Y : Type 0} (f : X → Y) (xs : List X) (k : ℕ) (x : X) → k < length xs → x ≡ get_or xs k x
    → map f (take (k + 1) xs) ≡ map f (take k xs) ++ f x ∷ []
map-take-more f xs k x h e =
    ap (map f) (take_more xs k x h) ∙ map-append f (take k xs) (get_or xs k x ∷ [])
    ∙ ap (λ z. map f (take k xs) ++ f z ∷ []) (sym e)

-- an element that fails the test isn't the first to pass it
pub position_from-more : {X Y : Type 0} (p : Y → Bool) (f : X → Y) (xs : List X) (k : ℕ) (x : X) → k < length xs → x ≡ get_or xs k x
    → p (f x) ≡ false
    → position_from p k (map f (drop k xs)) ≡ position_from p (k + 1) (map f (drop (k + 1) xs))
position_from-more p f xs k x h e q =
    let one : k + 1 ≡ suc k = omega arith in
    let t = ap (λ z. p (f z)) (sym e) ∙ q in
    rw (drop-cons xs k x h, t, one) refl

-- a test that no element passes fails at each place
pub fails : {X : Type 0} (p : X → Bool) (y : X) (i : ℕ) (ys : List X) → cond (p y) (Some i) (position_from p (i + 1) ys) ≡ None
    → (p y ≡ false) × (position_from p (i + 1) ys ≡ None)
fails p y i ys e = told (p y) refl e
  where
    told : (b : Bool) → p y ≡ b → cond b (Some i) (position_from p (i + 1) ys) ≡ None → (p y ≡ false) × (position_from p (i + 1) ys ≡ None)
    told true f g = cc
    told false f g = (f, g)

pub position_from-none : {X : Type 0} (p : X → Bool) (i : ℕ) (xs : List X) (k : ℕ) (x : X) → position_from p i xs ≡ None → k < length xs
    → x ≡ get_or xs k x → p x ≡ false
position_from-none p i [] k x e h s = absurd (omega (arith, h))
position_from-none p i (y ∷ ys) zero x e h s = ap p s ∙ (fails p y i ys e).0
position_from-none p i (y ∷ ys) (suc k) x e h s = position_from-none p (i + 1) ys k x ((fails p y i ys e).1) (omega (arith, h)) s

-- what all pass, each does
pub all-at : {X : Type 0} (p : X → Bool) (xs : List X) (k : ℕ) (x : X) → list_all p xs ≡ true → k < length xs → x ≡ get_or xs k x → p x ≡ true
all-at p [] k x e h s = absurd (omega (arith, h))
all-at p (y ∷ ys) zero x e h s = ap p s ∙ (both (p y) (list_all p ys) e).0
all-at p (y ∷ ys) (suc k) x e h s = all-at p ys k x ((both (p y) (list_all p ys) e).1) (omega (arith, h)) s

pub all-zip-at : {X Y : Type 0} (p : X × Y → Bool) (xs : List X) (ys : List Y) (k : ℕ) (x : X) (y : Y) → list_all p (zip xs ys) ≡ true
    → k < length xs → k < length ys → x ≡ get_or xs k x → y ≡ get_or ys k y → p (x, y) ≡ true
all-zip-at p [] ys k x y e h i s t = absurd (omega (arith, h))
all-zip-at p (a ∷ xs) [] k x y e h i s t = absurd (omega (arith, i))
all-zip-at p (a ∷ xs) (b ∷ ys) zero x y e h i s t = ap (λ z. p (z, y)) s ∙ ap (λ z. p (a, z)) t ∙ (both (p (a, b)) (list_all p (zip xs ys)) e).0
all-zip-at p (a ∷ xs) (b ∷ ys) (suc k) x y e h i s t =
    all-zip-at p xs ys k x y ((both (p (a, b)) (list_all p (zip xs ys)) e).1) (omega (arith, h)) (omega (arith, i)) s t

-- a list overwritten from the front, one element more
pub set-more : {X : Type 0} (news olds : List X) (k : ℕ) (x : X) → length news ≡ length olds → k < length olds → x ≡ get_or news k x
    → set (take k news ++ drop k olds) k x ≡ take (suc k) news ++ drop (suc k) olds
set-more [] [] k x l h e = absurd (omega (arith, h))
set-more [] (o ∷ olds) k x l h e = absurd (omega (arith, l))
set-more (n ∷ news) [] k x l h e = absurd (omega (arith, h))
set-more {X} (n ∷ news) (o ∷ olds) zero x l h e = ap (λ (z : X). z ∷ olds) e
set-more {X} (n ∷ news) (o ∷ olds) (suc k) x l h e =
    ap (λ (z : List X). n ∷ z) (set-more news olds k x (omega (arith, l)) (omega (arith, h)) e)

-- what is left to be searched, one element further
pub position_from-next : {X : Type 0} (p : X → Bool) (xs : List X) (k : ℕ) (x : X) → k < length xs → x ≡ get_or xs k x
    → position_from p k (drop k xs) ≡ cond (p x) (Some k) (position_from p (k + 1) (drop (k + 1) xs))
position_from-next {X} p xs k x h e =
    let one : k + 1 ≡ suc k = omega arith in
    let a = drop-cons xs k x h ∙ ap (λ (z : X). z ∷ drop (suc k) xs) (sym e) in
    rw (a, one) refl

-- a place inside a list holds the same whatever stands past the end
pub get_or-inside : {X : Type 0} (xs : List X) (k : ℕ) (d e : X) → k < length xs → get_or xs k d ≡ get_or xs k e
get_or-inside [] k d e h = absurd (omega (arith, h))
get_or-inside (x ∷ xs) zero d e h = refl
get_or-inside (x ∷ xs) (suc k) d e h = get_or-inside xs k d e (omega (arith, h))

-- a pair further in two lists
pub position_from-zip : {X Y : Type 0} (p : X × Y → Bool) (xs : List X) (ys : List Y) (k : ℕ) (x : X) (y : Y) → k < length xs → k < length ys
    → x ≡ get_or xs k x → y ≡ get_or ys k y
    → position_from p k (zip (drop k xs) (drop k ys)) ≡ cond (p (x, y)) (Some k) (position_from p (k + 1) (zip (drop (k + 1) xs) (drop (k + 1) ys)))
position_from-zip {X} {Y} p xs ys k x y h i e f =
    let one : k + 1 ≡ suc k = omega arith in
    let a = drop-cons xs k x h ∙ ap (λ (z : X). z ∷ drop (suc k) xs) (sym e) in
    let b = drop-cons ys k y i ∙ ap (λ (z : Y). z ∷ drop (suc k) ys) (sym f) in
    rw (a, b, one) refl
