-- Lists item by item.
use Rattle.std.proofs.Common.{◌≡◌, ℕ, zero, suc, ◌+◌, ◌*◌, ◌<◌, ◌≤◌, List, [], ◌∷◌, length, drop, Result, Ok, Err, refl, sym, ap, subst, ◌∙◌, arith}
use Rattle.std.specs.Prelude.{IfOk, OnErr, slice_index_or}
use Rattle.std.specs.Result.{IsErrAnd}
use Rattle.std.proofs.Math.Nat.{mul-suc}
use Rattle.std.specs.List.{AllByRecursion}
use Rattle.std.proofs.lemmas.List.{drop_more}

-- what is left of a list from an item on
pub drop_at : {X : Type 0} (xs : List X) (i : ℕ) (x : X) → i < length xs → x ≡ slice_index_or xs i x → drop i xs ≡ x ∷ drop (i + 1) xs
drop_at xs i x low is = drop_more xs i x low ∙ ap (λ y. y ∷ drop (i + 1) xs) (sym is)

pub drop_all : {X : Type 0} (xs : List X) (i : ℕ) → length xs ≤ i → drop i xs ≡ []
drop_all [] zero low = refl
drop_all [] (suc i) low = refl
drop_all (x ∷ xs) zero low = absurd (omega (arith, low))
drop_all (x ∷ xs) (suc i) low = drop_all xs i (omega (arith, low))

pub all_at : {X : Type 0} (P : X → Type 0) (xs : List X) (i : ℕ) (x : X) → AllByRecursion P xs → i < length xs → x ≡ slice_index_or xs i x → P x
all_at P [] i x all low is = absurd (omega (arith, low))
all_at P (y ∷ xs) zero x all low is = subst P (sym is) all.0
all_at P (y ∷ xs) (suc i) x all low is = all_at P xs i x all.1 (omega (arith, low)) is

-- what holds of an answer, by what follows from it
pub ok_to : {X E : Type 0} (P Q : X → Type 0) (r : Result X E) → ((x : X) → P x → Q x) → IfOk r P → IfOk r Q
ok_to P Q (Ok x) to p = to x p
ok_to P Q (Err e) to p = p

-- what holds of the error of an answer
pub err_and : {A E : Type 0} (P : E → Type 0) (r : Result A E) (x : E) → r ≡ Err x → IsErrAnd r P → P x
err_and P (Ok a) x is holds = absurd (cc)
err_and {A} {E} P (Err y) x is holds = subst (λ (r : Result A E). IsErrAnd r P) is holds

-- a list of which nothing is left
pub none_left : {X : Type 0} (xs : List X) → length xs ≡ 0 → xs ≡ []
none_left [] none = refl
none_left (x ∷ xs) none = absurd (omega (arith, none))

-- numbers that go up by a step for each item
pub count_more : (a s n m : ℕ) → m ≡ suc n → a + s + s * n ≡ a + s * m
count_more a s n m more = let times : s * suc n ≡ s * n + s = mul-suc s n in let same : s * m ≡ s * suc n = ap (λ k. s * k) more in omega (arith, times, same)

-- what holds on errors holds at one
pub on_err : {A E : Type 0} (X : Type 0) (r : Result A E) (e : E) → r ≡ Err e → OnErr r X → X
on_err X (Ok a) e is holds = absurd (cc)
on_err X (Err y) e is holds = holds
