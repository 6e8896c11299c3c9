-- Laws that several crates rest on: what tests tell, and the pairs of runs.
use Rattle.std.proofs.Common.{◌≡◌, ◌≢◌, ◌⊎◌, inl, inr, ℕ, zero, suc, ◌+◌, ◌<◌, ◌≤◌, ◌==◌, nat_lt, not, ◌&&◌, ◌||◌, cond, Bool, true, false, List, [], ◌∷◌, ◌++◌, length, get_or, Option, Some, None, Result, Ok, Err, refl, sym, ◌∙◌, ap, arith, zero-add, eqb-true, eq-eqb}
use Rattle.std.specs.List.{list_all}
use Rattle.std.proofs.lemmas.Bool.Decides.{nat_tests}
use Rattle.std.proofs.lemmas.List.FromFn.{length-map-range_with_len, get_or-map-range_with_len, map-range_with_len_more}
use Rattle.cells.specs.declared.run.Run.{Run}
use Rattle.cells.specs.Runs.{Pair, pair_at, pairs_of, first_pairs}

-- a test is true or false
pub true_or_false : (b : Bool) → (b ≡ true) ⊎ (b ≡ false)
true_or_false true = inl refl
true_or_false false = inr refl

-- no test is both
pub not_both : {P : Type 0} (b : Bool) → b ≡ true → b ≡ false → P
not_both b is isnt = absurd (let clash : true ≡ false = sym is ∙ isnt in cc)

-- what a conjunction says
pub both : (a b : Bool) → (a && b) ≡ true → (a ≡ true) × (b ≡ true)
both true b is = (refl, is)
both false b is = absurd (let no_such : ⊥ = cc in no_such)

-- what makes a conjunction
pub both_true : (a b : Bool) → a ≡ true → b ≡ true → (a && b) ≡ true
both_true true b one other = other
both_true false b one other = absurd (let no_such : ⊥ = cc in no_such)

-- a conjunction fails by its first part or by its second
pub either_false : (a b : Bool) → (a && b) ≡ false → (a ≡ false) ⊎ ((a ≡ true) × (b ≡ false))
either_false true b isnt = inr (refl, isnt)
either_false false b isnt = inl refl

-- what a disjunction says
pub either_true : (a b : Bool) → (a || b) ≡ true → (a ≡ true) ⊎ ((a ≡ false) × (b ≡ true))
either_true true b is = inl refl
either_true false b is = inr (refl, is)

-- a disjunction that fails
pub both_false : (a b : Bool) → (a || b) ≡ false → (a ≡ false) × (b ≡ false)
both_false true b isnt = absurd (let no_such : ⊥ = cc in no_such)
both_false false b isnt = (refl, isnt)

-- the second part of a disjunction whose first fails
pub second_true : (a b : Bool) → a ≡ false → (a || b) ≡ true → b ≡ true
second_true true b isnt is = absurd (let no_such : ⊥ = cc in no_such)
second_true false b isnt is = is

-- what the contrary of a test says
pub not_true : (b : Bool) → not b ≡ true → b ≡ false
not_true true is = absurd (let no_such : ⊥ = cc in no_such)
not_true false is = refl

-- tests that hold together are equal
pub same_test : (a b : Bool) → (a ≡ true → b ≡ true) → (b ≡ true → a ≡ true) → a ≡ b
same_test true b there back = sym (there refl)
same_test false true there back = back refl
same_test false false there back = refl

-- the value of a choice whose test holds
pub then_from : {A : Type 0} (b : Bool) (x y : A) → b ≡ true → cond b x y ≡ x
then_from true x y is = refl
then_from false x y is = absurd (let no_such : ⊥ = cc in no_such)

-- the value of a choice whose test fails
pub else_from : {A : Type 0} (b : Bool) (x y : A) → b ≡ false → cond b x y ≡ y
else_from true x y isnt = absurd (let no_such : ⊥ = cc in no_such)
else_from false x y isnt = refl

-- what both branches tell is told by the choice
pub either : {A : Type 0} (P : Type 0) (b : Bool) (x y z : A) → (x ≡ z → P) → (y ≡ z → P) → cond b x y ≡ z → P
either P true x y z one other is = one is
either P false x y z one other is = other is

-- a choice between a value and an error that is a value
pub ok_from_then : {A E : Type 0} (b : Bool) (r : Result A E) (a : A) (e : E) → cond b r (Err e) ≡ Ok a → (b ≡ true) × (r ≡ Ok a)
ok_from_then true r a e is = (refl, is)
ok_from_then false r a e is = absurd (let no_such : ⊥ = cc in no_such)

-- a choice between an error and a value that is a value
pub ok_from_else : {A E : Type 0} (b : Bool) (r : Result A E) (a : A) (e : E) → cond b (Err e) r ≡ Ok a → (b ≡ false) × (r ≡ Ok a)
ok_from_else true r a e is = absurd (let no_such : ⊥ = cc in no_such)
ok_from_else false r a e is = (refl, is)

-- a choice between something and nothing that is something
pub some_from_then : {A : Type 0} (b : Bool) (o : Option A) (a : A) → cond b o None ≡ Some a → (b ≡ true) × (o ≡ Some a)
some_from_then true o a is = (refl, is)
some_from_then false o a is = absurd (let no_such : ⊥ = cc in no_such)

-- numbers are equal or not
pub equal_or_not : (a b : ℕ) → (a ≡ b) ⊎ (a ≢ b)
equal_or_not a b =
    elim (true_or_false (a == b)) [ inl h ↦ inl (eqb-true a b h) | inr h ↦ inr (λ e. not_both (a == b) (eq-eqb a b e) h) ]

-- a number is below another or not
pub less_or_not : (a b : ℕ) → (a < b) ⊎ (b ≤ a)
less_or_not a b = elim (true_or_false (nat_lt a b)) [ inl h ↦ inl (less h) | inr h ↦ inr (not_less h) ]
  where
    less : nat_lt a b ≡ true → a < b
    less h = grind (arith, nat_tests)

    not_less : nat_lt a b ≡ false → b ≤ a
    not_less h = grind (arith, nat_tests)

-- a test of all holds at each place
pub list_all-at : {A : Type 0} (p : A → Bool) (xs : List A) (d : A) → list_all p xs ≡ true → (k : ℕ) → k < length xs → p (get_or xs k d) ≡ true
list_all-at p [] d all k less = absurd (omega arith)
list_all-at p (x ∷ xs) d all zero less = (both (p x) (list_all p xs) all).0
list_all-at p (x ∷ xs) d all (suc k) less = list_all-at p xs d ((both (p x) (list_all p xs) all).1) k (omega arith)

-- a test that holds at each place holds of all
pub list_all-from : {A : Type 0} (p : A → Bool) (xs : List A) (d : A) → ((k : ℕ) → k < length xs → p (get_or xs k d) ≡ true) → list_all p xs ≡ true
list_all-from p [] d each = refl
list_all-from p (x ∷ xs) d each =
    both_true (p x) (list_all p xs) (each 0 (omega arith)) (list_all-from p xs d (λ k less. each (suc k) (omega arith)))

-- a run has as many pairs as it is long
pub length-pairs_of : (run : Run) → length (pairs_of run) ≡ run.len
length-pairs_of run = length-map-range_with_len (pair_at run) 0 run.len

-- the pair at a place
pub get_or-pairs_of : (run : Run) (k : ℕ) (d : Pair) → k < run.len → get_or (pairs_of run) k d ≡ pair_at run k
get_or-pairs_of run k d less = get_or-map-range_with_len (pair_at run) 0 run.len k k d less (zero-add k)

-- one pair more stands at the end
pub pairs_of-more : (run : Run) (k : ℕ) → pairs_of (first_pairs run (k + 1)) ≡ pairs_of (first_pairs run k) ++ pair_at run k ∷ []
pairs_of-more run k = map-range_with_len_more (pair_at run) 0 k k (zero-add k)

-- the first pairs are all of them where they are as many
pub first_pairs-all : (run : Run) (k : ℕ) → k ≡ run.len → first_pairs run k ≡ run
first_pairs-all run k all = ap (λ (n : ℕ). first_pairs run n) all
