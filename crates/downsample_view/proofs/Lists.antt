-- The new dimensions one after another.
use Rattle.std.proofs.Common.{◌≡◌, ◌∙◌, ◌<◌, ℕ, zero, suc, ◌+◌, ℤ, pos, ◌+ℤ◌, Result, Ok, Err, IfOk, nat_le, true, List, [], ◌∷◌, ◌++◌, length, map, take, drop, get_or, drop-cons, refl, sym, ap, subst, arith}
use Rattle.std.proofs.lemmas.Bool.Decides.{nat_tests}
use Rattle.std.proofs.lemmas.Int.{ints}
use Rattle.std.proofs.lemmas.List.{append-nil, drop_all, take_all}
use Rattle.index_transform.specs.Cells.{counting}
use Rattle.std.specs.List.{AllByRecursion, list_all}
use Rattle.index_intervals.specs.Bounds.{Bounds}
use Rattle.index_intervals.specs.Members.{is_finite}
use Rattle.cells.proofs.Laws.{both, both_true, list_all-at}
use Rattle.downsample_view.specs.Groups.{IsFactor, is_factor, new_dim, new_dims}
use Rattle.downsample_view.specs.declared.method.Method.{Method}
use Rattle.downsample_view.proofs.Rows.{map-append}

new_dims-more : (method : Method) (fs : List ℕ) (ds : List Bounds) (k : ℕ) (f : ℕ) (d : Bounds) → k < length fs → k < length ds → f ≡ get_or fs k f → d ≡ get_or ds k d
    → new_dims method (take (k + 1) fs) (take (k + 1) ds) ≡ new_dims method (take k fs) (take k ds) ++ new_dim method f d ∷ []
new_dims-more method [] ds k f d b c e g = absurd (omega (arith, b))
new_dims-more method (x ∷ fs) [] k f d b c e g = absurd (omega (arith, c))
new_dims-more method (x ∷ fs) (y ∷ ds) zero f d b c e g =
    ap (λ n. new_dims method (take n (x ∷ fs)) (take n (y ∷ ds))) (let z : zero + 1 ≡ suc zero = omega arith in z)
    ∙ ap (λ n. new_dim method n y ∷ []) (sym e) ∙ ap (λ n. new_dim method f n ∷ []) (sym g)
new_dims-more method (x ∷ fs) (y ∷ ds) (suc k) f d b c e g =
    ap (λ n. new_dims method (take n (x ∷ fs)) (take n (y ∷ ds))) (let z : suc k + 1 ≡ suc (k + 1) = omega arith in z)
    ∙ ap (λ zs. new_dim method x y ∷ zs) (new_dims-more method fs ds k f d (omega (arith, b)) (omega (arith, c)) e g)

-- what is listed of the new dimensions, with one more
pub listed-more : {A : Type 0} (h : Bounds → A) (method : Method) (fs : List ℕ) (ds : List Bounds) (k : ℕ) (f : ℕ) (d : Bounds) → k < length fs → k < length ds → f ≡ get_or fs k f → d ≡ get_or ds k d
    → map h (new_dims method (take (k + 1) fs) (take (k + 1) ds)) ≡ map h (new_dims method (take k fs) (take k ds)) ++ h (new_dim method f d) ∷ []
listed-more h method fs ds k f d b c e g =
    ap (map h) (new_dims-more method fs ds k f d b c e g) ∙ map-append h (new_dims method (take k fs) (take k ds)) (new_dim method f d ∷ [])

pub factor-at : (fs : List ℕ) (k f : ℕ) → AllByRecursion IsFactor fs → k < length fs → f ≡ get_or fs k f → IsFactor f
factor-at [] k f all b e = absurd (omega (arith, b))
factor-at (x ∷ fs) zero f all b e = subst IsFactor (sym e) all.0
factor-at (x ∷ fs) (suc k) f all b e = factor-at fs k f all.1 (omega (arith, b)) e

pub finite-at : (ds : List Bounds) (k : ℕ) (d : Bounds) → list_all is_finite ds ≡ true → k < length ds → d ≡ get_or ds k d → is_finite d ≡ true
finite-at ds k d all b e = ap is_finite e ∙ list_all-at is_finite ds d all k b

pub rest-at : {X : Type 0} (xs : List X) (k : ℕ) (x : X) → k < length xs → x ≡ get_or xs k x → drop k xs ≡ x ∷ drop (k + 1) xs
rest-at {X} xs k x below is =
    let one : suc k ≡ k + 1 = omega arith in
    drop-cons xs k x below ∙ ap (λ (z : X). z ∷ drop (suc k) xs) (sym is) ∙ ap (λ n. x ∷ drop n xs) one

-- what is listed of numbers from one on, with one more
pub counting-more : {A : Type 0} (h : ℤ → A) (lo : ℤ) (k : ℕ) → map h (counting lo (k + 1)) ≡ map h (counting lo k) ++ h (lo +ℤ pos k) ∷ []
counting-more h lo zero = (let one : zero + 1 ≡ suc zero = omega arith in ap (λ n. map h (counting lo n)) one) ∙ (let z : lo ≡ lo +ℤ pos 0 = omega (arith, ints) in ap (λ y. h y ∷ []) z)
counting-more h lo (suc k) =
    (let one : suc k + 1 ≡ suc (k + 1) = omega arith in ap (λ n. map h (counting lo n)) one)
    ∙ ap (λ zs. h lo ∷ zs) (counting-more h (lo +ℤ pos 1) k ∙ (let z : (lo +ℤ pos 1) +ℤ pos k ≡ lo +ℤ pos (suc k) = omega (arith, ints) in ap (λ y. map h (counting (lo +ℤ pos 1) k) ++ h y ∷ []) z))

pub if_ok : {A E : Type 0} (P Q : A → Type 0) → ((x : A) → P x → Q x) → (r : Result A E) → IfOk r P → IfOk r Q
if_ok P Q f (Ok x) p = f x p
if_ok P Q f (Err e) p = p

-- a slice that was written over the whole of a vector
pub whole_written : {X : Type 0} (olds news : List X) (n : ℕ) → length news ≡ length olds → length olds ≡ n → take n (news ++ drop (length news) olds) ≡ news
whole_written {X} olds news n same count =
    let none : drop (length news) olds ≡ [] = drop_all (length news) olds (omega (arith, same)) in
    ap (λ (ys : List X). take n (news ++ ys)) none ∙ ap (take n) (append-nil news) ∙ take_all n news (omega (arith, same, count))

pub factors-from : (fs : List ℕ) → list_all is_factor fs ≡ true → AllByRecursion IsFactor fs
factors-from [] e = tt
factors-from (f ∷ fs) e =
    let p = both (is_factor f) (list_all is_factor fs) e in
    let q = both (nat_le 1 f) (nat_le f 4194304) p.0 in
    (record { some = grind (arith, nat_tests, q.0); few = grind (arith, nat_tests, q.1) }, factors-from fs p.1)

pub factors-all : (fs : List ℕ) → AllByRecursion IsFactor fs → list_all is_factor fs ≡ true
factors-all [] all = refl
factors-all (f ∷ fs) all =
    let some = all.0.some in
    let few = all.0.few in
    both_true (is_factor f) (list_all is_factor fs) (both_true (nat_le 1 f) (nat_le f 4194304) (grind (arith, nat_tests, some)) (grind (arith, nat_tests, few))) (factors-all fs all.1)
