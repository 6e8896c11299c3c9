-- Numbers in rows of equal length.
use Rattle.std.proofs.Common.{◌≡◌, ◌∙◌, ◌<◌, ◌≤◌, ℕ, zero, suc, ◌+◌, ◌*◌, ◌==◌, nat_lt, ℤ, pos, ◌+ℤ◌, Bool, true, false, ◌&&◌, List, [], ◌∷◌, ◌++◌, map, Option, Some, None, refl, sym, ap, arith}
use Rattle.std.proofs.lemmas.Bool.Decides.{nat_tests}
use Rattle.std.proofs.lemmas.Int.{ints}
use Rattle.std.specs.List.{flat_map, range_with_len}
use Rattle.cells.proofs.Laws.{both, both_true, same_test}
use Rattle.index_transform.specs.Cells.{counting}
use Rattle.downsample_view.specs.Places.{joined_place, is_below, is_place}

pub map-append : {A B : Type 0} (g : A → B) (xs ys : List A) → map g (xs ++ ys) ≡ map g xs ++ map g ys
map-append g [] ys = refl
map-append g (x ∷ xs) ys = ap (λ zs. g x ∷ zs) (map-append g xs ys)

pub map-map : {A B C : Type 0} (g : B → C) (h : A → B) (xs : List A) → map g (map h xs) ≡ map (λ x. g (h x)) xs
map-map g h [] = refl
map-map g h (x ∷ xs) = ap (λ zs. g (h x) ∷ zs) (map-map g h xs)

pub map-flat_map : {A B C : Type 0} (g : B → C) (f : A → List B) (xs : List A) → map g (flat_map f xs) ≡ flat_map (λ x. map g (f x)) xs
map-flat_map g f [] = refl
map-flat_map g f (x ∷ xs) = map-append g (f x) (flat_map f xs) ∙ ap (λ zs. map g (f x) ++ zs) (map-flat_map g f xs)

pub flat_map-map : {A B C : Type 0} (f : B → List C) (h : A → B) (xs : List A) → flat_map f (map h xs) ≡ flat_map (λ x. f (h x)) xs
flat_map-map f h [] = refl
flat_map-map f h (x ∷ xs) = ap (λ zs. f (h x) ++ zs) (flat_map-map f h xs)

pub flat_map-same : {A B : Type 0} (f g : A → List B) (xs : List A) → ((x : A) → f x ≡ g x) → flat_map f xs ≡ flat_map g xs
flat_map-same f g [] same = refl
flat_map-same f g (x ∷ xs) same = ap (λ zs. zs ++ flat_map f xs) (same x) ∙ ap (λ zs. g x ++ zs) (flat_map-same f g xs same)

pub map-same : {A B : Type 0} (f g : A → B) (xs : List A) → ((x : A) → f x ≡ g x) → map f xs ≡ map g xs
map-same f g [] same = refl
map-same f g (x ∷ xs) same = ap (λ z. z ∷ map f xs) (same x) ∙ ap (λ zs. g x ∷ zs) (map-same f g xs same)

range-append : (a m n : ℕ) → range_with_len a (m + n) ≡ range_with_len a m ++ range_with_len (a + m) n
range-append a zero n = ap (λ k. range_with_len a k) (omega arith) ∙ ap (λ k. range_with_len k n) (omega arith)
range-append a (suc m) n =
    ap (λ k. range_with_len a k) (let e : suc m + n ≡ suc (m + n) = omega arith in e)
    ∙ ap (λ zs. a ∷ zs) (range-append (a + 1) m n ∙ ap (λ k. range_with_len (a + 1) m ++ range_with_len k n) (omega arith))

range-shift : {A : Type 0} (g : ℕ → A) (a c n : ℕ) → map g (range_with_len (a + c) n) ≡ map (λ q. g (a + q)) (range_with_len c n)
range-shift g a c zero = refl
range-shift g a c (suc n) = ap (λ zs. g (a + c) ∷ zs) (ap (λ k. map g (range_with_len k n)) (omega arith) ∙ range-shift g a (c + 1) n)

pub range-same : {A : Type 0} (f g : ℕ → A) (c n top : ℕ) → c + n ≤ top → ((q : ℕ) → q < top → f q ≡ g q) → map f (range_with_len c n) ≡ map g (range_with_len c n)
range-same f g c zero top b same = refl
range-same f g c (suc n) top b same =
    ap (λ z. z ∷ map f (range_with_len (c + 1) n)) (same c (omega (arith, b))) ∙ ap (λ zs. g c ∷ zs) (range-same f g (c + 1) n top (omega (arith, b)) same)

-- numbers row by row, each row that of an index from a number on
pub rows-are : {A : Type 0} (g : ℕ → A) (row : ℤ → List A) (lo : ℤ) (b s n top : ℕ) → s + n ≤ top
    → ((k : ℕ) → k < top → map (λ q. g (k * b + q)) (range_with_len 0 b) ≡ row (lo +ℤ pos k))
    → map g (range_with_len (s * b) (n * b)) ≡ flat_map row (counting (lo +ℤ pos s) n)
rows-are g row lo b s zero top inside each = let e : zero * b ≡ zero = omega arith in ap (λ k. map g (range_with_len (s * b) k)) e
rows-are {A} g row lo b s (suc n) top inside each =
    let first : map g (range_with_len (s * b) b) ≡ row (lo +ℤ pos s) =
    ap (λ k. map g (range_with_len k b)) (let e : s * b ≡ s * b + 0 = omega arith in e) ∙ range-shift g (s * b) 0 b ∙ each s (omega (arith, inside)) in
    let next : s * b + b ≡ (s + 1) * b = one_more s b in
    let step : (lo +ℤ pos s) +ℤ pos 1 ≡ lo +ℤ pos (s + 1) = omega (arith, ints) in
    ap (λ k. map g (range_with_len (s * b) k)) (count n b)
    ∙ ap (map g) (range-append (s * b) b (n * b))
    ∙ map-append g (range_with_len (s * b) b) (range_with_len (s * b + b) (n * b))
    ∙ ap (λ (zs : List A). zs ++ map g (range_with_len (s * b + b) (n * b))) first
    ∙ ap (λ k. row (lo +ℤ pos s) ++ map g (range_with_len k (n * b))) next
    ∙ ap (λ (zs : List A). row (lo +ℤ pos s) ++ zs) (rows-are g row lo b (s + 1) n top (omega (arith, inside)) each)
    ∙ ap (λ z. row (lo +ℤ pos s) ++ flat_map row (counting z n)) (sym step)
  where
    one_more : (s b : ℕ) → s * b + b ≡ (s + 1) * b
    one_more s b = grind arith

    count : (n b : ℕ) → suc n * b ≡ b + n * b
    count n b = grind arith

below-product : (r k b : ℕ) → r < k → r * b + b ≤ k * b
below-product r zero b h = absurd (omega (arith, h))
below-product zero (suc k) b h = grind arith
below-product (suc r) (suc k) b h = let rest = below-product r k b (omega (arith, h)) in grind (arith, rest)

-- a place in one of the rows
pub joined-is : (b k q : ℕ) (row place : Option ℕ) → q < b → is_below b place ≡ true → is_place (k * b + q) (joined_place b row place) ≡ (is_place k row && is_place q place)
joined-is b k q None place inside below = refl
joined-is b k q (Some r) None inside below = none (r == k)
  where
    none : (t : Bool) → false ≡ (t && false)
    none true = refl
    none false = refl
joined-is b k q (Some r) (Some p) inside below =
    same_test _ _
    (λ e.
    let at : r * b + p ≡ k * b + q = grind (arith, nat_tests, e) in
    let small : p < b = grind (arith, nat_tests, below) in
    let rows = row_is r k p q b small inside at in
    let places : p ≡ q = (let s = ap (λ n. n * b) rows in omega (arith, at, s)) in
    both_true (r == k) (p == q) (grind (arith, nat_tests, rows)) (grind (arith, nat_tests, places)))
    (λ e.
    let s = both (r == k) (p == q) e in
    let rows : r ≡ k = grind (arith, nat_tests, s.0) in
    let places : p ≡ q = grind (arith, nat_tests, s.1) in
    let at : r * b + p ≡ k * b + q = ap (λ n. n * b + p) rows ∙ ap (λ n. k * b + n) places in
    grind (arith, nat_tests, at))
  where
    row_is : (r k p q b : ℕ) → p < b → q < b → r * b + p ≡ k * b + q → r ≡ k
    row_is r k p q b small inside at = told (nat_lt r k) refl (nat_lt k r) refl
      where
        told : (s : Bool) → nat_lt r k ≡ s → (t : Bool) → nat_lt k r ≡ t → r ≡ k
        told true e t f = let h : r < k = grind (arith, nat_tests, e) in let m = below-product r k b h in absurd (omega (arith, m, at, small))
        told false e true f = let h : k < r = grind (arith, nat_tests, f) in let m = below-product k r b h in absurd (omega (arith, m, at, inside))
        told false e false f = grind (arith, nat_tests, e, f)

pub joined-below : (b n : ℕ) (row place : Option ℕ) → is_below n row ≡ true → is_below b place ≡ true → is_below (n * b) (joined_place b row place) ≡ true
joined-below b n None place e f = refl
joined-below b n (Some r) None e f = refl
joined-below b n (Some r) (Some p) e f =
    let h : r < n = grind (arith, nat_tests, e) in
    let g : p < b = grind (arith, nat_tests, f) in
    let m = below-product r n b h in
    let s : r * b + p < n * b = omega (arith, m, g) in
    grind (arith, nat_tests, s)
