-- The dimensions that aren't selected.
use Rattle.std.proofs.Common.{◌≡◌, ◌∙◌, zero, suc, ℕ, ◌+◌, ◌<◌, ◌≤◌, ◌==◌, ◌||◌, Bool, true, false, cond, List, [], ◌∷◌, length, filter, get_or, refl, sym, ap, subst, arith, Option, Some, None, is_none, is_some}
use Rattle.std.proofs.lemmas.Bool.Decides.{nat_tests}
use Rattle.std.specs.List.{All, list_any, position_from, range_with_len}
use Rattle.dim_changes.specs.Dims.{spot_in, others}
use Rattle.step_forms.specs.Selection.{has_repeat}
use Rattle.dim_changes.proofs.SpotLaws.{spot_in-Some}

-- the dimension isn't selected
abbrev pub stays : List ℕ → ℕ → Bool
stays selected dim = is_none (spot_in selected dim)

-- those of so many from one on that aren't selected
abbrev pub rest_from : List ℕ → ℕ → ℕ → List ℕ
rest_from selected a n = filter (stays selected) (range_with_len a n)

none_of : (o : Option ℕ) → is_none o ≡ true → o ≡ None
none_of None e = refl
none_of (Some x) e = cc

-- each of them is one of the range that isn't selected
pub record IsLeft (selected : List ℕ) (a n dim : ℕ) : Type 0 where
  pub above : a ≤ dim
  pub below : dim < a + n
  pub kept : spot_in selected dim ≡ None

left_later : (selected : List ℕ) (a n dim : ℕ) → IsLeft selected (a + 1) n dim → IsLeft selected a (suc n) dim
left_later selected a n dim l = let low = l.above in let high = l.below in record { above = omega (arith, low); below = omega (arith, high); kept = l.kept }

pub rest_at : (selected : List ℕ) (a n p x : ℕ) → p < length (rest_from selected a n) → IsLeft selected a n (get_or (rest_from selected a n) p x)
rest_at selected a zero p x less = absurd (omega (arith, less))
rest_at selected a (suc n) p x less = told (stays selected a) refl p less (λ q h. left_later selected a n _ (rest_at selected (a + 1) n q x h))
  where
    told : (b : Bool) → stays selected a ≡ b → (q : ℕ) → q < length (cond b (a ∷ rest_from selected (a + 1) n) (rest_from selected (a + 1) n))
        → ((k : ℕ) → k < length (rest_from selected (a + 1) n) → IsLeft selected a (suc n) (get_or (rest_from selected (a + 1) n) k x))
        → IsLeft selected a (suc n) (get_or (cond b (a ∷ rest_from selected (a + 1) n) (rest_from selected (a + 1) n)) q x)
    told true e zero h later = record { above = omega arith; below = omega arith; kept = none_of (spot_in selected a) e }
    told true e (suc q) h later = later q (omega (arith, h))
    told false e q h later = later q h

pub rest_few : (selected : List ℕ) (a n : ℕ) → length (rest_from selected a n) ≤ n
rest_few selected a zero = omega arith
rest_few selected a (suc n) = told (stays selected a) (rest_few selected (a + 1) n)
  where
    told : (b : Bool) → length (rest_from selected (a + 1) n) ≤ n → length (cond b (a ∷ rest_from selected (a + 1) n) (rest_from selected (a + 1) n)) ≤ suc n
    told true h = omega (arith, h)
    told false h = omega (arith, h)

-- where one is selected, fewer stay
pub rest_fewer : (selected : List ℕ) (a n dim : ℕ) → a ≤ dim → dim < a + n → stays selected dim ≡ false → length (rest_from selected a n) < n
rest_fewer selected a zero dim low high gone = absurd (omega arith)
rest_fewer selected a (suc n) dim low high gone = told (stays selected a) (a == dim) refl refl (rest_few selected (a + 1) n) (λ l. rest_fewer selected (a + 1) n dim l (omega (arith, high)) gone)
  where
    told : (b c : Bool) → stays selected a ≡ b → (a == dim) ≡ c → length (rest_from selected (a + 1) n) ≤ n → ((a + 1) ≤ dim → length (rest_from selected (a + 1) n) < n)
        → length (cond b (a ∷ rest_from selected (a + 1) n) (rest_from selected (a + 1) n)) < suc n
    told true true e f h later = let same : a ≡ dim = grind (arith, nat_tests) in absurd (let g = ap (stays selected) same in cc)
    told true false e f h later = let l : (a + 1) ≤ dim = grind (arith, nat_tests) in let k = later l in omega (arith, k)
    told false c e f h later = omega (arith, h)

-- one of the range that isn't selected is there
pub rest_has : (selected : List ℕ) (a n dim : ℕ) → a ≤ dim → dim < a + n → stays selected dim ≡ true → list_any (λ d. d == dim) (rest_from selected a n) ≡ true
rest_has selected a zero dim low high left = absurd (omega arith)
rest_has selected a (suc n) dim low high left = told (stays selected a) (a == dim) refl refl (λ l. rest_has selected (a + 1) n dim l (omega (arith, high)) left)
  where
    told : (b c : Bool) → stays selected a ≡ b → (a == dim) ≡ c → ((a + 1) ≤ dim → list_any (λ d. d == dim) (rest_from selected (a + 1) n) ≡ true)
        → list_any (λ d. d == dim) (cond b (a ∷ rest_from selected (a + 1) n) (rest_from selected (a + 1) n)) ≡ true
    told true true e f later = ap (λ z. z || list_any (λ d. d == dim) (rest_from selected (a + 1) n)) f
    told true false e f later =
        let l : (a + 1) ≤ dim = grind (arith, nat_tests) in
        ap (λ z. z || list_any (λ d. d == dim) (rest_from selected (a + 1) n)) f ∙ later l
    told false true e f later = let same : a ≡ dim = grind (arith, nat_tests) in absurd (let g = ap (stays selected) same in cc)
    told false false e f later = let l : (a + 1) ≤ dim = grind (arith, nat_tests) in later l

-- and none comes twice
rest_above : (selected : List ℕ) (k a n : ℕ) → k < a → list_any (λ d. d == k) (rest_from selected a n) ≡ false
rest_above selected k a zero less = refl
rest_above selected k a (suc n) less = told (stays selected a) (rest_above selected k (a + 1) n (omega (arith, less)))
  where
    apart : (a == k) ≡ false
    apart = grind (arith, nat_tests)

    told : (b : Bool) → list_any (λ d. d == k) (rest_from selected (a + 1) n) ≡ false → list_any (λ d. d == k) (cond b (a ∷ rest_from selected (a + 1) n) (rest_from selected (a + 1) n)) ≡ false
    told true h = ap (λ z. z || list_any (λ d. d == k) (rest_from selected (a + 1) n)) apart ∙ h
    told false h = h

pub rest_distinct : (selected : List ℕ) (a n : ℕ) → has_repeat (rest_from selected a n) ≡ false
rest_distinct selected a zero = refl
rest_distinct selected a (suc n) = told (stays selected a) (rest_distinct selected (a + 1) n)
  where
    told : (b : Bool) → has_repeat (rest_from selected (a + 1) n) ≡ false → has_repeat (cond b (a ∷ rest_from selected (a + 1) n) (rest_from selected (a + 1) n)) ≡ false
    told true h = ap (λ z. z || has_repeat (rest_from selected (a + 1) n)) (rest_above selected a (a + 1) n (omega arith)) ∙ h
    told false h = h

-- Spots in lists.

some_any : (i : ℕ) (xs : List ℕ) (x : ℕ) → is_some (position_from (λ d. d == x) i xs) ≡ list_any (λ d. d == x) xs
some_any i [] x = refl
some_any i (y ∷ xs) x = told (y == x) (some_any (i + 1) xs x)
  where
    told : (b : Bool) → is_some (position_from (λ d. d == x) (i + 1) xs) ≡ list_any (λ d. d == x) xs → is_some (cond b (Some i) (position_from (λ d. d == x) (i + 1) xs)) ≡ (b || list_any (λ d. d == x) xs)
    told true h = refl
    told false h = h

-- what is in a list has a spot there
pub any_spot : (xs : List ℕ) (x : ℕ) → list_any (λ d. d == x) xs ≡ true → (p : ℕ) × (spot_in xs x ≡ Some p)
any_spot xs x there = told (spot_in xs x) refl (some_any 0 xs x ∙ there)
  where
    told : (o : Option ℕ) → spot_in xs x ≡ o → is_some o ≡ true → (p : ℕ) × (spot_in xs x ≡ Some p)
    told None e h = cc
    told (Some p) e h = (p, e)

none_at : (xs : List ℕ) (y p x : ℕ) → list_any (λ d. d == y) xs ≡ false → p < length xs → (get_or xs p x == y) ≡ false
none_at [] y p x none less = absurd (omega (arith, less))
none_at (z ∷ xs) y p x none less = told (z == y) refl none p less (none_at xs y)
  where
    told : (b : Bool) → (z == y) ≡ b → (b || list_any (λ d. d == y) xs) ≡ false → (q : ℕ) → q < length (z ∷ xs)
        → ((k x : ℕ) → list_any (λ d. d == y) xs ≡ false → k < length xs → (get_or xs k x == y) ≡ false) → (get_or (z ∷ xs) q x == y) ≡ false
    told true e f q h later = cc
    told false e f zero h later = e
    told false e f (suc q) h later = later q x f (omega (arith, h))

spot_from : (i : ℕ) (xs : List ℕ) (p x : ℕ) → has_repeat xs ≡ false → p < length xs → position_from (λ d. d == get_or xs p x) i xs ≡ Some (i + p)
spot_from i [] p x once less = absurd (omega (arith, less))
spot_from i (y ∷ xs) zero x once less =
    let same : (y == y) ≡ true = grind (arith, nat_tests) in
    let z : i ≡ i + 0 = omega arith in
    ap (λ b. cond b (Some i) (position_from (λ d. d == y) (i + 1) xs)) same ∙ ap Some z
spot_from i (y ∷ xs) (suc p) x once less = told (list_any (λ d. d == y) xs) refl once (spot_from (i + 1) xs p x)
  where
    told : (b : Bool) → list_any (λ d. d == y) xs ≡ b → (b || has_repeat xs) ≡ false
        → (has_repeat xs ≡ false → p < length xs → position_from (λ d. d == get_or xs p x) (i + 1) xs ≡ Some (i + 1 + p))
        → cond (y == get_or xs p x) (Some i) (position_from (λ d. d == get_or xs p x) (i + 1) xs) ≡ Some (i + suc p)
    told true e f later = cc
    told false e f later =
        let h : p < length xs = omega (arith, less) in
        let apart = none_at xs y p x e h in
        let other : (y == get_or xs p x) ≡ false = grind (arith, nat_tests) in
        let z : i + 1 + p ≡ i + suc p = omega arith in
        ap (λ b. cond b (Some i) (position_from (λ d. d == get_or xs p x) (i + 1) xs)) other ∙ later f h ∙ ap Some z

-- where none comes twice, each has its own spot
pub spot_distinct : (xs : List ℕ) (p x : ℕ) → has_repeat xs ≡ false → p < length xs → spot_in xs (get_or xs p x) ≡ Some p
spot_distinct xs p x once less = spot_from 0 xs p x once less ∙ (let z : 0 + p ≡ p = omega arith in ap Some z)

-- a dimension that stays has its spot among those that do
pub record HasSpot (rest : List ℕ) (dim : ℕ) : Type 0 where
  pub spot : ℕ
  pub found : spot_in rest dim ≡ Some spot
  pub inside : spot < length rest
  pub there : (x : ℕ) → get_or rest spot x ≡ dim

pub left_spot : (selected : List ℕ) (rank dim : ℕ) → dim < rank → spot_in selected dim ≡ None → HasSpot (others selected rank) dim
left_spot selected rank dim less left =
    let found = any_spot (others selected rank) dim (rest_has selected 0 rank dim (omega arith) (omega (arith, less)) (ap is_none left)) in
    let is = spot_in-Some (others selected rank) dim found.0 found.1 in
    record { spot = found.0; found = found.1; inside = is.inside; there = is.there }

pub others_known : (selected : List ℕ) (n rank : ℕ) (rest : List ℕ) → n ≤ rank → rest ≡ others selected n → All (λ dim. dim < rank) rest
others_known selected n rank rest most is = subst (λ (ds : List ℕ). All (λ dim. dim < rank) ds) (sym is) (λ k d h. let b = (rest_at selected 0 n k d h).below in omega (arith, b, most))

pub others_few : (selected : List ℕ) (n rank : ℕ) (rest : List ℕ) → n ≤ rank → rest ≡ others selected n → length rest ≤ rank
others_few selected n rank rest most is = let few = rest_few selected 0 n in let same = ap length is in omega (arith, few, same, most)
